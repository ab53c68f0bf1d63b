-- Why a member waits: each reason, a rule of docs/REBALANCING.md, and what is so then. So it doesn't wait while there is
-- something to do.
use Rattle.std.specs.Prelude.{◌≡◌, ◌⊎◌, ◌<◌, ◌≤◌, ◌==◌, ℕ, Bool, true, false, Option, Some, None, Contains}
use Rattle.bully_member.specs.Activities.{any_stopping}
use Rattle.bully_member.specs.Due.{HasAllOf, is_newcomer, is_outdated, last_table, rebalance_left, token_now, until_ready}
use Rattle.bully_member.specs.Member.{MemberState, SeesStable, above, is_ready, is_ready_itself, lease_of}
use Rattle.bully_member.specs.Times.{pause_left, renewal_left, turn_left}
use Rattle.bully_member.specs.declared.values.Asked.{Asked}
use Rattle.bully_member.specs.declared.values.Ending.{Ending}
use Rattle.bully_member.specs.declared.values.Lease.{Lease}
use Rattle.bully_member.specs.declared.values.Reason.{Reason}
use Rattle.bully_member.specs.declared.values.SessionId.{SessionId}
use Rattle.bully_member.specs.declared.values.SessionState.{SessionState}
use Rattle.bully_member.specs.declared.values.Step.{Step}
use Rattle.bully_member.specs.declared.values.Until.{Until}

-- it has no lease, goes on in its epoch, and has read a snapshot since anything was new
pub record HasNoLease (m : MemberState) : Type 0 where
  pub absent : m.session ≡ SessionState.Absent
  pub going : m.ending ≡ None
  pub within : m.is_past ≡ false
  pub fresh : m.needs_snapshot ≡ false

-- it has its lease, which isn't due to be renewed, goes on in its epoch, and has read a snapshot since anything was new
-- or one more lease was admitted
pub record HasItsLease (m : MemberState) (now : ℕ) : Type 0 where
  pub session : SessionId
  pub since : ℕ
  pub live : m.session ≡ SessionState.Live session since
  pub early : (renewal_left m.session m.ttl now == 0) ≡ false
  pub going : m.ending ≡ None
  pub within : m.is_past ≡ false
  pub fresh : is_outdated m now ≡ false

-- another process holds the lease of its node
pub record IsHeld (m : MemberState) : Type 0 where
  pub lease : Lease
  pub there : lease_of m.terms.node m.leases ≡ Some lease
  pub other : (lease.session.process == m.process) ≡ false

-- its node owns nothing; or it works on all that it owns, by the last plan's token
abbrev pub HasNoMore : MemberState → Option ℕ → Type 0
HasNoMore m None = Unit {0}
HasNoMore m (Some token) = (token ≡ m.token) × HasAllOf m (last_table m)

-- the group isn't stable, and the member itself has done all that a change needs of it
pub record IsReadyToChange (m : MemberState) (now : ℕ) : Type 0 where
  pub has : HasItsLease m now
  pub unstable : SeesStable m → ⊥
  pub admitted : is_newcomer m ≡ false
  pub promised : is_ready_itself m ≡ true

-- in an eager group an unknown process holds a lease; or this lease is another node's, which the change affects and
-- which isn't ready for it
abbrev pub LacksAnother : MemberState → Type 0
LacksAnother m = ((m.terms.is_cooperative ≡ false) × (m.has_unknown ≡ true))
    ⊎ ((lease : Lease) × Contains m.leases lease × (is_ready m lease ≡ false))

abbrev pub HoldsFor : MemberState → (now : ℕ) → Reason → Type 0
HoldsFor m now Reason.Answer = (asked : Asked) × (m.asked ≡ Some asked)
HoldsFor m now Reason.Stop = any_stopping m.works ≡ true
HoldsFor m now Reason.Pause = 0 < pause_left m.paused m.ttl now
HoldsFor m now Reason.Held = HasNoLease m × IsHeld m
HoldsFor m now Reason.Rebalance =
    HasNoLease m × (lease_of m.terms.node m.leases ≡ None) × (0 < rebalance_left m now)
HoldsFor m now Reason.Stable = HasItsLease m now × SeesStable m × HasNoMore m (token_now m)
HoldsFor m now Reason.Admission = HasItsLease m now × (SeesStable m → ⊥) × (is_newcomer m ≡ true)
HoldsFor m now Reason.Turn = IsReadyToChange m now × (0 < turn_left (above m) m.ttl now m.last_change.at)
HoldsFor m now Reason.Others =
    IsReadyToChange m now × (turn_left (above m) m.ttl now m.last_change.at ≡ 0) × LacksAnother m

-- what ends such a wait early
abbrev pub until_for : MemberState → Reason → Until
until_for m Reason.Stable = Until.AnyIdle
until_for m Reason.Others = until_ready m
until_for m reason = Until.News

-- a wait takes some time, and no longer than until the lease must be renewed; without a lease a ttl at most
abbrev pub IsTimely : MemberState → (now : ℕ) → (at_most : ℕ) → Type 0
IsTimely m now at_most = (0 < m.ttl → 0 < at_most) × (at_most ≤ renewal_left m.session m.ttl now)

-- it waits or backs off only for a reason that holds
abbrev pub WaitsFor : MemberState → (now : ℕ) → Step → Type 0
WaitsFor m now (Step.Wait at_most ends reason) =
    HoldsFor m now reason × (ends ≡ until_for m reason) × IsTimely m now at_most
WaitsFor m now (Step.BackOff at_most reason) = HoldsFor m now reason × (0 < m.ttl → 0 < at_most)
WaitsFor m now _ = Unit {0}
