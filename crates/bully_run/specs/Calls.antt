-- A member that runs: calls on its value, one after the other, and what it promises by them.
use Rattle.std.specs.Prelude.{◌≡◌, ◌<◌, ◌-◌, ◌^◌, ◌++◌, ◌⊎◌, ℕ, Bool, true, List, [], ◌∷◌}
use Rattle.std.specs.Prelude.{Option, None, Some, Result}
use Rattle.std.specs.List.{AllByRecursion}
use Rattle.bully_member.specs.Asking.{promise_of}
use Rattle.bully_member.specs.Due.{Sees, due, noted}
use Rattle.bully_member.specs.Keeping.{Awaits, Keeps, WorksOnlyIfSure}
use Rattle.bully_member.specs.Learned.{after_learning, followed, not_there}
use Rattle.bully_member.specs.Member.{MemberState, new_member}
use Rattle.bully_member.specs.Opening.{terms_fault}
use Rattle.bully_member.specs.Told.{answered, end_for, lost, snapshot_lost, snapshot_read, stopped, stopped_on}
use Rattle.bully_member.specs.Told.{to_snapshot}
use Rattle.bully_member.specs.declared.opening.Terms.{Terms}
use Rattle.bully_member.specs.declared.values.Ending.{Ending}
use Rattle.bully_member.specs.declared.values.Lease.{Lease}
use Rattle.bully_member.specs.declared.values.Request.{Request}
use Rattle.bully_member.specs.declared.values.SessionId.{SessionId}
use Rattle.bully_member.specs.declared.values.Sight.{Sight}
use Rattle.bully_member.specs.declared.values.Step.{Step}
use Rattle.bully_member.specs.declared.values.StoreAnswer.{StoreAnswer}
use Rattle.bully_replica.specs.RowReplica.{FollowsUpTo}
use Rattle.bully_replica.specs.declared.row_replica.LearnFault.{LearnFault}
use Rattle.bully_rows.specs.Headers.{Record}
use Rattle.bully_rows.specs.declared.header.Header.{Header}
use Rattle.bully_work.specs.Store.{Promised, nothing_in}

-- A call on a member that changes it, with what the driver gives it. (Next has its result, too; Learn has the records
-- that the reader gave, and how that ended. SnapshotLost is a snapshot for which there was no memory.)
pub data Call : Type 0 where
  Next : (now : ℕ) (step : Step) → Call
  Answered : (now : ℕ) (answer : StoreAnswer) → Call
  Learn : (records : List Record) (taken : Result (Unit {0}) LearnFault) → Call
  SnapshotRead : (now epoch : ℕ) (leases : List Lease) (has_unknown has_request : Bool) → Call
  SnapshotLost : (now : ℕ) (leases : List Lease) → Call
  Followed : (now : ℕ) (header : Header) (terms : Terms) → Call
  NotThere : Call
  Passed : Call
  Woke : Call
  Leave : Call
  Broken : Call
  Lost : (token : ℕ) → Call
  Stopped : Call
  StoppedOn : (partition : ℕ) → Call

-- the member does this next, and is then so: what `Member::next` promises
pub record GoesNext (m : MemberState) (now : ℕ) (step : Step) (after : MemberState) : Type 0 where
  pub sight : Sight
  pub sees : Sees m now sight
  pub due : step ≡ due m now sight
  pub noted : after ≡ noted m now sight.is_stable step
  pub keeps : Keeps m now step
  pub awaits : Awaits now m.asked step after.asked
  pub stops : WorksOnlyIfSure m now after.works

-- the member has learned the first of these records, and is then so: what `Member::learn` promises
pub record GoesOnLearning (m : MemberState) (records : List Record) (taken : Result (Unit {0}) LearnFault)
    (after : MemberState) : Type 0 where
  pub left : List Record
  pub follows : FollowsUpTo records m.learned after.learned left
  pub rest : after ≡ after_learning m after.learned taken

-- what a call makes of a member: the words are those of the contracts of bully_member
abbrev pub Takes : MemberState → Call → MemberState → Type 0
Takes m (Next now step) after = GoesNext m now step after
Takes m (Answered now answer) after = after ≡ answered m now answer
Takes m (Learn records taken) after = GoesOnLearning m records taken after
Takes m (SnapshotRead now epoch leases has_unknown has_request) after =
    after ≡ snapshot_read m now epoch leases has_unknown has_request after.coming after.affected
Takes m (SnapshotLost now leases) after = after ≡ snapshot_lost m now leases
Takes m (Followed now header terms) after =
    (terms_fault header.setup terms ≡ None) × (after ≡ followed m now header terms)
Takes m NotThere after = after ≡ not_there m
Takes m Passed after = after ≡ record m { is_past = true; asked = None }
Takes m Woke after = after ≡ to_snapshot m
Takes m Leave after = after ≡ end_for m Ending.Left m.ending
Takes m Broken after = after ≡ end_for m Ending.Broken m.ending
Takes m (Lost token) after = after ≡ lost m token
Takes m Stopped after = after ≡ stopped m
Takes m (StoppedOn partition) after = after ≡ stopped_on m partition

-- a promise that the member has asked the store for, and for which session
pub record Made : Type 0 where
  pub session : SessionId
  pub promised : Promised

-- what a step promises: an acquire promises its offset, and keeps nothing; a promise keeps what the member works on
abbrev pub made_by : MemberState → Step → Option Made
made_by m (Step.Ask (Request.Acquire session offset)) =
    Some (record { session = session; promised = nothing_in m.terms.epoch offset })
made_by m (Step.Ask (Request.Promise session offset)) =
    Some (record { session = session; promised = promise_of m offset })
made_by m other = None

abbrev pub made_in : MemberState → Call → Option Made
made_in m (Next now step) = made_by m step
made_in m call = None

abbrev pub with_made : List Made → Option Made → List Made
with_made made None = made
with_made made (Some p) = made ++ p ∷ []

-- these calls, in this order, lead from one member to another, and add to what it has promised
abbrev pub Lives : MemberState → List Made → List Call → MemberState → List Made → Type 0
Lives m made [] after all = (after ≡ m) × (all ≡ made)
Lives m made (call ∷ calls) after all =
    (mid : MemberState) × Takes m call mid × Lives mid (with_made made (made_in m call)) calls after all

-- a new member becomes this one by these calls, and has made these promises
pub record HasLived (calls : List Call) (m : MemberState) (made : List Made) : Type 0 where
  pub header : Header
  pub terms : Terms
  pub process : ℕ
  pub ttl : ℕ
  pub lives : Lives (new_member header terms process ttl) [] calls m made

-- the session that the member has asked for last
abbrev pub session_now : MemberState → SessionId
session_now m = record { process = m.process; number = m.tries }

-- The premise that no number of a session is used twice: the member hasn't used the last one.
abbrev pub NumbersLast : MemberState → Type 0
NumbersLast m = m.tries < 2 ^ 64 - 1

-- the promise was made for this session in this epoch, up to this offset
pub record IsMadeFor (session : SessionId) (epoch offset : ℕ) (p : Made) : Type 0 where
  pub own : p.session ≡ session
  pub within : p.promised.epoch ≡ epoch
  pub end : p.promised.offset ≡ offset

-- the step asks for the lease of this session, or to renew it
abbrev pub AsksFor : SessionId → Step → Type 0
AsksFor session (Step.Ask (Request.Acquire other offset)) = other ≡ session
AsksFor session (Step.Ask (Request.Renew other)) = other ≡ session
AsksFor session _ = ⊥

-- the call may come between a request for a lease and its answer: it asks for nothing, and doesn't end that request
abbrev pub IsBetween : Call → Type 0
IsBetween (Next now (Step.Ask request)) = ⊥
IsBetween (Answered now answer) = ⊥
IsBetween (SnapshotLost now leases) = ⊥
IsBetween Passed = ⊥
IsBetween other = Unit {0}

-- by these calls the store has granted the lease of this session, as it was asked for at that time: a step asked for it,
-- or to renew it, and the first answer after that, before any other request, says that this is done
pub record IsGranted (calls : List Call) (session : SessionId) (since : ℕ) : Type 0 where
  pub first : List Call
  pub step : Step
  pub waits : List Call
  pub now : ℕ
  pub rest : List Call
  pub order : calls ≡ first ++ (Next since step ∷ waits) ++ (Answered now StoreAnswer.Done ∷ rest)
  pub asks : AsksFor session step
  pub between : AllByRecursion IsBetween waits

-- the promise reaches less far than the plan of this token of this epoch
abbrev pub IsBehind : Promised → (epoch token : ℕ) → Type 0
IsBehind p epoch token = (p.epoch < epoch) ⊎ ((p.epoch ≡ epoch) × (p.offset < token))

-- the same session, in the same epoch
pub record IsSameTime (m after : MemberState) : Type 0 where
  pub tries : after.tries ≡ m.tries
  pub epoch : after.terms.epoch ≡ m.terms.epoch
