-- The rules that a member keeps in what it starts and asks for.
use Rattle.std.specs.Prelude.{◌≡◌, ◌+◌, ◌-◌, ◌^◌, min, ℕ, Bool, true, false, List, Option, Some, None}
use Rattle.std.specs.List.{list_all}
use Rattle.bully_member.specs.Activities.{all_idle, any_stopping, busy, works_at}
use Rattle.bully_member.specs.Due.{token_now}
use Rattle.bully_member.specs.Member.{Foresees, MemberState, SeesStable, all_ready, has_promised, is_alone, is_closing}
use Rattle.bully_member.specs.Member.{is_in_group, offset_of}
use Rattle.bully_member.specs.Times.{sure}
use Rattle.bully_member.specs.declared.values.Activity.{Activity}
use Rattle.bully_member.specs.declared.values.Asked.{Asked}
use Rattle.bully_member.specs.declared.values.Ending.{Ending}
use Rattle.bully_member.specs.declared.values.Request.{Request}
use Rattle.bully_member.specs.declared.values.SessionId.{SessionId}
use Rattle.bully_member.specs.declared.values.SessionState.{SessionState}
use Rattle.bully_member.specs.declared.values.Step.{Step}
use Rattle.bully_rebalance.specs.Leaving.{is_left}

-- it works on nothing that it was asked to stop
abbrev pub StopsNothing : MemberState → Type 0
StopsNothing m = any_stopping m.works ≡ false

-- it works on nothing
abbrev pub WorksOnNothing : MemberState → Type 0
WorksOnNothing m = all_idle m.works ≡ true

-- in an eager group it works on nothing
abbrev pub IsIdleIfEager : MemberState → Type 0
IsIdleIfEager m = m.terms.is_cooperative ≡ false → WorksOnNothing m

-- it may work now: its lease is sure, and it goes on in its epoch
pub record MayWork (m : MemberState) (now : ℕ) : Type 0 where
  pub live : sure m.session m.ttl now ≡ true
  pub going : m.ending ≡ None
  pub within : m.is_past ≡ false

-- after a step it works on a partition, without having been asked to stop that, only if it may work now
abbrev pub WorksOnlyIfSure : MemberState → (now : ℕ) → List Activity → Type 0
WorksOnlyIfSure m now works = (k : ℕ) → works_at works k ≡ true → MayWork m now

-- it has its lease by this session
abbrev pub HasSession : MemberState → SessionId → Type 0
HasSession m session = (since : ℕ) × (m.session ≡ SessionState.Live session since)

-- it has no lease, and this is the next session of its process
abbrev pub IsNextSession : MemberState → SessionId → Type 0
IsNextSession m session = (m.session ≡ SessionState.Absent)
    × (session ≡ record { process = m.process; number = min (m.tries + 1) (2 ^ 64 - 1) })

-- it ends: it works on nothing, has no lease, and was to end for this reason
abbrev pub EndsBy : MemberState → Ending → Type 0
EndsBy m ending = WorksOnNothing m × (m.session ≡ SessionState.Absent) × (m.ending ≡ Some ending)

-- it begins to work by this token: it may work now, the group is stable, and its node owns something by a plan of this
-- token, after all that its session has promised
pub record BeginsBy (m : MemberState) (now token : ℕ) : Type 0 where
  pub free : StopsNothing m
  pub may : MayWork m now
  pub is_stable : SeesStable m
  pub owner : token_now m ≡ Some token

-- it asks for its lease at this offset: it works on nothing, and the offset is the end of what it has learned
pub record AcquiresAt (m : MemberState) (offset : ℕ) : Type 0 where
  pub idle : WorksOnNothing m
  pub end : offset ≡ offset_of m

-- it promises this offset, which is the end of what it has learned, keeping what it works on
pub record PromisesAt (m : MemberState) (offset : ℕ) : Type 0 where
  pub free : StopsNothing m
  pub idle : IsIdleIfEager m
  pub end : offset ≡ offset_of m

-- all that its change affects are ready, and so is it; or it is alone, and ends
abbrev pub AreReady : MemberState → Option Ending → Type 0
AreReady m None = all_ready m ≡ true
AreReady m (Some ending) = (is_alone m ≡ true) × (has_promised m ≡ true) × WorksOnNothing m

-- the coming table leaves its node all that it works on. (Without one it works on nothing.)
abbrev pub IsLeftItsWork : MemberState → Type 0
IsLeftItsWork m = list_all (is_left m.coming m.terms.node) (busy m.works) ≡ true

-- it asks for a change of the log at this offset, which is the end of what it has learned: it knows what is coming, and
-- all are ready
pub record ChangesAt (m : MemberState) (offset : ℕ) : Type 0 where
  pub free : StopsNothing m
  pub idle : IsIdleIfEager m
  pub end : offset ≡ offset_of m
  pub foresees : Foresees m
  pub left : IsLeftItsWork m
  pub ready : AreReady m m.ending

-- ... to append the rebalance: it is one of those among whom the group is rebalanced, if that is cooperative
pub record AppendsAt (m : MemberState) (offset : ℕ) : Type 0 where
  pub changes : ChangesAt m offset
  pub own : m.ending ≡ None → m.terms.is_cooperative ≡ true → is_in_group m m.terms.node ≡ true
  pub goes_on : m.ending ≡ None → is_closing m ≡ false

-- ... to roll the epoch over
pub record RollsOverAt (m : MemberState) (offset : ℕ) : Type 0 where
  pub changes : ChangesAt m offset
  pub idle : WorksOnNothing m
  pub going : m.ending ≡ None
  pub closing : is_closing m ≡ true

-- it asks for nothing and starts nothing: its work stops, or it backs off
abbrev pub stops_or_backs_off : Step → Bool
stops_or_backs_off Step.Stop = true
stops_or_backs_off (Step.BackOff at_most reason) = true
stops_or_backs_off _ = false

-- one request is under way at a time: what the member asks for is awaited from then on; as long as it isn't answered,
-- the member asks for nothing else, and still awaits that one
abbrev pub Awaits : (now : ℕ) → Option Asked → Step → Option Asked → Type 0
Awaits now None (Step.Ask request) after = after ≡ Some (record { request = request; at = now })
Awaits now None answer after = after ≡ None
Awaits now (Some asked) answer after = (stops_or_backs_off answer ≡ true) × (after ≡ Some asked)

abbrev pub Keeps : MemberState → (now : ℕ) → Step → Type 0
Keeps m now (Step.Begin token) = BeginsBy m now token
Keeps m now (Step.Ask (Request.Acquire session offset)) = AcquiresAt m offset × IsNextSession m session
Keeps m now (Step.Ask (Request.Renew session)) = HasSession m session
Keeps m now (Step.Ask (Request.Promise session offset)) = PromisesAt m offset × HasSession m session
Keeps m now (Step.Ask (Request.Append offset)) = AppendsAt m offset
Keeps m now (Step.Ask (Request.RollOver offset)) = RollsOverAt m offset
Keeps m now (Step.Ask (Request.Release session)) = WorksOnNothing m
Keeps m now (Step.Ask Request.Follow) = WorksOnNothing m
Keeps m now (Step.End ending) = EndsBy m ending
Keeps m now other = Unit {0}
