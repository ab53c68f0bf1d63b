-- What a member does next: the first rule that applies. The numbers are those of the table in docs/REBALANCING.md.
use Rattle.std.specs.Prelude.{◌≡◌, ◌↔◌, ◌+◌, ◌-◌, ◌^◌, ◌==◌, ◌&&◌, ◌||◌, not, if◌then◌else◌, ℕ, Bool, true, false}
use Rattle.std.specs.Prelude.{IsTrue, List, Option, Some, None, nat_lt, min, fold, filter}
use Rattle.std.specs.List.{list_any}
use Rattle.std.specs.Option.{option_map}
use Rattle.bully_member.specs.Activities.{any_stopping, any_working, begin_at, changed, stop_at, works_at}
use Rattle.bully_member.specs.Member.{MemberState, AllAreDown, SeesStable, above, all_ready, has_promised, has_room}
use Rattle.bully_member.specs.Member.{is_alone}
use Rattle.bully_member.specs.Member.{is_closing, is_down, is_in_group, is_ready_itself, are_none, offset_of, lease_of}
use Rattle.bully_member.specs.Member.{replica_of, stay_left}
use Rattle.bully_member.specs.Times.{awaiting_backoff, left, pause_left, paused_backoff, renewal_left, stopping_backoff}
use Rattle.bully_member.specs.Times.{sure, turn_left}
use Rattle.bully_member.specs.declared.values.Activity.{Activity}
use Rattle.bully_member.specs.declared.values.Ahead.{Ahead}
use Rattle.bully_member.specs.declared.values.Asked.{Asked}
use Rattle.bully_member.specs.declared.values.Until.{Until}
use Rattle.bully_member.specs.declared.values.Ending.{Ending}
use Rattle.bully_member.specs.declared.values.SessionId.{SessionId}
use Rattle.bully_member.specs.declared.values.SessionState.{SessionState}
use Rattle.bully_member.specs.declared.values.Lease.{Lease}
use Rattle.bully_member.specs.declared.values.Reason.{Reason}
use Rattle.bully_member.specs.declared.values.Request.{Request}
use Rattle.bully_member.specs.declared.values.Sight.{Sight}
use Rattle.bully_member.specs.declared.values.Step.{Step}
use Rattle.bully_rebalance.specs.Leaving.{is_left}
use Rattle.bully_rebalance.specs.Owning.{owned_by, token_in}
use Rattle.bully_replica.specs.LastPlan.{table_in}
use Rattle.bully_work.specs.Working.{GivesTo}

-- the token by which it may work, if its node owns anything: by a plan after all that its session has promised
abbrev pub token_now : MemberState → Option ℕ
token_now m = option_map token_in (owned_by (replica_of m) m.terms.node m.promised)

abbrev pub is_none_of : {A : Type 0} → Option A → Bool
is_none_of None = true
is_none_of (Some a) = false

-- whether any work may go on: the lease is sure, the member isn't ending, its epoch isn't over, and the work didn't end
-- by itself
abbrev pub goes_on : MemberState → (now : ℕ) → Bool
goes_on m now = sure m.session m.ttl now && is_none_of m.ending && not m.is_past && not m.is_lost

-- whether work goes on by the token of what the node owns: in an eager group only if it began by that token
abbrev pub goes_on_by : MemberState → Option ℕ → Bool
goes_on_by m None = false
goes_on_by m (Some token) = m.terms.is_cooperative || (token == m.token)

-- which table says on what it may go on: none; in a stable group the last plan's; or else the coming one
abbrev pub ahead : MemberState → (now : ℕ) → (is_stable : Bool) → Ahead
ahead m now is_stable =
    if not (goes_on m now) then Ahead.Nothing else
    if not is_stable then Ahead.Coming else
    if goes_on_by m (token_now m) then Ahead.Last else
    Ahead.Nothing

abbrev pub table_by : Ahead → (last coming : Option (List ℕ)) → Option (List ℕ)
table_by Ahead.Nothing last coming = None
table_by Ahead.Last last coming = last
table_by Ahead.Coming last coming = coming

abbrev pub last_table : MemberState → Option (List ℕ)
last_table m = option_map table_in (replica_of m).last

abbrev pub table_ahead : MemberState → (now : ℕ) → (is_stable : Bool) → Option (List ℕ)
table_ahead m now is_stable = table_by (ahead m now is_stable) (last_table m) m.coming

-- it may go on with all that it works on, and wasn't asked to stop
abbrev pub MayGoOn : MemberState → Option (List ℕ) → Type 0
MayGoOn m table = (k : ℕ) → works_at m.works k ≡ true → is_left table m.terms.node k ≡ true

-- it works on all that this table gives its node
abbrev pub HasAll : MemberState → List ℕ → Type 0
HasAll m table = (k : ℕ) → GivesTo table k m.terms.node → works_at m.works k ≡ true

-- ... if there is one
abbrev pub HasAllOf : MemberState → Option (List ℕ) → Type 0
HasAllOf m None = Unit {0}
HasAllOf m (Some table) = HasAll m table

-- that is what the member sees now
pub record Sees (m : MemberState) (now : ℕ) (s : Sight) : Type 0 where
  pub stable : IsTrue s.is_stable ↔ SeesStable m
  pub down : IsTrue s.are_down ↔ AllAreDown m
  pub stays : IsTrue s.may_go_on ↔ MayGoOn m (table_ahead m now s.is_stable)
  pub all : IsTrue s.has_all ↔ HasAllOf m (last_table m)

-- The rules, from the last to the first.

-- what ends the wait for the others: in an eager group that all are idle, and else that one of them has promised
abbrev pub until_ready : MemberState → Until
until_ready m = if m.terms.is_cooperative then Until.Promises else Until.AllIdle

-- rules 22 to 24: it is its turn to roll the epoch over or to rebalance the group, once all are ready
abbrev pub change_step : MemberState → (now : ℕ) → Step
change_step m now =
    if not (all_ready m) then Step.Wait (renewal_left m.session m.ttl now) (until_ready m) Reason.Others else
    if is_closing m then Step.Ask (Request.RollOver (offset_of m)) else
    Step.Ask (Request.Append (offset_of m))

-- rule 21: until its turn
abbrev pub turn_step : MemberState → (now : ℕ) → Step
turn_step m now =
    let turn = turn_left (above m) m.ttl now m.last_change.at in
    if nat_lt 0 turn then Step.Wait (min (renewal_left m.session m.ttl now) turn) Until.News Reason.Turn else
    change_step m now

-- whether a cooperative group is rebalanced without it, since it isn't admitted yet
abbrev pub is_newcomer : MemberState → Bool
is_newcomer m = m.terms.is_cooperative && not (is_in_group m m.terms.node)

-- whether a lease that wasn't admitted when the last snapshot was read will be, since its holder doesn't leave
abbrev pub is_to_come : MemberState → Lease → Bool
is_to_come m p = not p.is_leaving && not (is_in_group m p.node)

-- how long it waits while nothing is new: until the next renewal is due, or one more lease is admitted
abbrev pub admission_wait : MemberState → (now : ℕ) → ℕ
admission_wait m now = fold (λ least p. min least (stay_left m.arrivals now p.node)) (renewal_left m.session m.ttl now)
    (filter (is_to_come m) m.leases)

-- rules 19 and 20: the group isn't stable
abbrev pub unstable_step : MemberState → (now : ℕ) → SessionId → Step
unstable_step m now session =
    if is_newcomer m then Step.Wait (admission_wait m now) Until.News Reason.Admission else
    if not (is_ready_itself m) then Step.Ask (Request.Promise session (offset_of m)) else
    turn_step m now

-- rules 17 and 18: the group is stable, and it works on all that its node owns, by the last plan's token
abbrev pub stable_step : MemberState → (now : ℕ) → (has_all : Bool) → Option ℕ → Step
stable_step m now has_all None = Step.Wait (admission_wait m now) Until.AnyIdle Reason.Stable
stable_step m now has_all (Some token) = if has_all && (token == m.token)
    then Step.Wait (admission_wait m now) Until.AnyIdle Reason.Stable else Step.Begin token

-- rule 16: it was told to leave: if it is the last one, it has all nodes crash before it goes
abbrev pub leaving_step : MemberState → (are_down : Bool) → SessionId → Step
leaving_step m are_down session =
    if is_alone m && not are_down && has_room m && not m.has_closed then
    (if has_promised m then Step.Ask (Request.Append (offset_of m)) else
    Step.Ask (Request.Promise session (offset_of m)))
    else Step.Ask (Request.Release session)

abbrev pub is_leaving : Ending → Bool
is_leaving Ending.Left = true
is_leaving ending = false

-- rules 14 and 15: it ends, and still has its lease
abbrev pub ending_step : MemberState → (now : ℕ) → (are_down : Bool) → SessionId → Ending → Step
ending_step m now are_down session ending =
    if not (is_leaving ending) || m.is_past || not (sure m.session m.ttl now)
    then Step.Ask (Request.Release session) else
    if m.needs_snapshot then Step.Ask Request.Snapshot else
    leaving_step m are_down session

-- whether a lease is admitted by now that wasn't when the last snapshot was read
abbrev pub is_admitted_since : MemberState → (now : ℕ) → Lease → Bool
is_admitted_since m now p = is_to_come m p && (stay_left m.arrivals now p.node == 0)

-- whether another snapshot is due: the last one is out of date, or a lease has been admitted since
abbrev pub is_outdated : MemberState → (now : ℕ) → Bool
is_outdated m now = m.needs_snapshot || list_any (is_admitted_since m now) m.leases

-- rules 8 and 15: it has its lease, and goes on
abbrev pub live_step : MemberState → (now : ℕ) → Sight → SessionId → Step
live_step m now s session =
    if m.is_past then Step.Ask Request.Follow else
    if is_outdated m now then Step.Ask Request.Snapshot else
    if s.is_stable then stable_step m now s.has_all (token_now m) else
    unstable_step m now session

-- how long it waits until the others have rebalanced the group without the session before it, a ttl at most: only if
-- its node is up in the log, and others hold leases
abbrev pub rebalance_left : MemberState → (now : ℕ) → ℕ
rebalance_left m now = if is_down m m.terms.node || are_none m.leases then 0 else left now m.ttl m.last_change.at

-- rules 10 to 13: by who holds the lease of its node: an earlier session of its own, which was acquired late; another
-- process; or nobody
abbrev pub acquiring_step : MemberState → (now : ℕ) → Option Lease → Step
acquiring_step m now (Some p) = if p.session.process == m.process then Step.Ask (Request.Release p.session) else
    Step.Wait m.ttl Until.News Reason.Held
acquiring_step m now None =
    if nat_lt 0 (rebalance_left m now) then Step.Wait (rebalance_left m now) Until.News Reason.Rebalance else
    Step.Ask (Request.Acquire (record { process = m.process; number = min (m.tries + 1) (2 ^ 64 - 1) }) (offset_of m))

-- rules 8 and 9: it doesn't have its lease, and goes on
abbrev pub absent_step : MemberState → (now : ℕ) → Step
absent_step m now =
    if m.is_past then Step.Ask Request.Follow else
    if m.needs_snapshot then Step.Ask Request.Snapshot else
    acquiring_step m now (lease_of m.terms.node m.leases)

-- rule 6: it doesn't have its lease: if it is ending, it has ended
abbrev pub step_without_session : MemberState → (now : ℕ) → Option Ending → Step
step_without_session m now (Some ending) = Step.End ending
step_without_session m now None = absent_step m now

abbrev pub step_of_session : MemberState → (now : ℕ) → Sight → SessionId → Option Ending → Step
step_of_session m now s session (Some ending) = ending_step m now s.are_down session ending
step_of_session m now s session None = live_step m now s session

-- rule 7: whether a renewal is due: a member that ends doesn't renew a lease that isn't sure any more, so it ends even
-- if nothing is answered
abbrev pub is_due : MemberState → (now : ℕ) → Bool
is_due m now = (renewal_left m.session m.ttl now == 0) && (is_none_of m.ending || sure m.session m.ttl now)

-- rules 5 to 7: nothing has to be stopped, and something may be asked for
abbrev pub session_step : MemberState → (now : ℕ) → Sight → SessionState → Step
session_step m now s (SessionState.Unknown session) = Step.Ask (Request.Release session)
session_step m now s SessionState.Absent = step_without_session m now m.ending
session_step m now s (SessionState.Live session since) =
    if is_due m now then Step.Ask (Request.Renew session) else
    step_of_session m now s session m.ending

-- whether it reads a snapshot while some work has to end, so that it finds what else it has to stop
abbrev pub looks_ahead : MemberState → (now : ℕ) → Bool
looks_ahead m now = m.terms.is_cooperative && not m.is_past && not (nat_lt 0 (pause_left m.paused m.ttl now))

-- rule 3: some work has to end: meanwhile the lease is renewed
abbrev pub live_stopping_step : MemberState → (now : ℕ) → SessionId → Step
live_stopping_step m now session =
    let backoff = stopping_backoff (any_working m.works) m.session m.ttl now m.paused in
    if backoff == 0 then Step.Ask (Request.Renew session) else
    if not (looks_ahead m now) then Step.BackOff backoff Reason.Stop else
    if m.needs_snapshot then Step.Ask Request.Snapshot else
    Step.Wait (renewal_left m.session m.ttl now) Until.News Reason.Stop

abbrev pub stopping_step : MemberState → (now : ℕ) → SessionState → Step
stopping_step m now (SessionState.Live session since) = live_stopping_step m now session
stopping_step m now session = Step.BackOff m.ttl Reason.Stop

-- rule 4: no work has to end
abbrev pub going_step : MemberState → (now : ℕ) → Sight → Step
going_step m now s =
    if nat_lt 0 (pause_left m.paused m.ttl now)
    then Step.BackOff (paused_backoff (any_working m.works) m.session m.ttl now m.paused) Reason.Pause else
    session_step m now s m.session

abbrev pub step_by_work : MemberState → (now : ℕ) → Sight → Step
step_by_work m now s = if any_stopping m.works then stopping_step m now m.session else going_step m now s

-- rule 2: one request is under way at a time: while it isn't answered, the member backs off
abbrev pub step_unless_awaiting : MemberState → (now : ℕ) → Sight → Option Asked → Step
step_unless_awaiting m now s (Some asked) =
    Step.BackOff (awaiting_backoff (any_working m.works) m.session m.ttl now) Reason.Answer
step_unless_awaiting m now s None = step_by_work m now s

-- what is due now, given what the member sees. Rule 1: it stops what it may not go on with
abbrev pub due : MemberState → (now : ℕ) → Sight → Step
due m now s = if not s.may_go_on then Step.Stop else step_unless_awaiting m now s m.asked

-- What is noted of a step.

abbrev pub when_asked : MemberState → Request → MemberState
when_asked m (Request.Acquire session offset) =
    record m { tries = session.number; promised = offset; is_asked_exact = true }
when_asked m (Request.Promise session offset) = record m { promised = offset; is_asked_exact = true }
when_asked m (Request.Append offset) = record m { has_closed = not (is_none_of m.ending) }
when_asked m request = m

-- its work has changed, and with it what a promise has to keep
abbrev pub with_works : MemberState → List Activity → MemberState
with_works m works = record m { works = works; is_exact = false; is_asked_exact = false }

-- it asks for this
abbrev pub asked_for : MemberState → (now : ℕ) → Request → MemberState
asked_for m now request = record (when_asked m request) { asked = Some (record { request = request; at = now }) }

-- it works by this token, on all that the last plan gives its node beside what it works on already
abbrev pub begun : MemberState → (token : ℕ) → MemberState
begun m token =
    record (with_works m (changed (begin_at (last_table m) m.terms.node) m.works)) { token = token; is_lost = false }

-- it was asked to stop all that this table doesn't leave its node
abbrev pub stopping : MemberState → Option (List ℕ) → MemberState
stopping m table = record m { works = changed (stop_at table m.terms.node) m.works; is_lost = false }

abbrev pub noted : MemberState → (now : ℕ) → (is_stable : Bool) → Step → MemberState
noted m now is_stable (Step.Ask request) = asked_for m now request
noted m now is_stable (Step.Begin token) = begun m token
noted m now is_stable Step.Stop = stopping m (table_ahead m now is_stable)
noted m now is_stable other = m
