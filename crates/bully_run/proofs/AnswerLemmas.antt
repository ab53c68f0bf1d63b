-- What an answer, and what a snapshot shows of the member's own lease, leave as it was, and what they make of its session.
use Rattle.std.proofs.Common.{◌≡◌, ℕ, Bool, true, false, Option, Some, None, if◌then◌else◌, refl}
use Rattle.bully_member.specs.Member.{MemberState}
use Rattle.bully_member.specs.Told.{acquired_by, answered, answered_by, own_by, own_by_promise, own_promise, renewed_by, to_end_session, to_snapshot, when_acquired, when_answered, when_renewed}
use Rattle.bully_member.specs.declared.values.Asked.{Asked}
use Rattle.bully_member.specs.declared.values.Lease.{Lease}
use Rattle.bully_member.specs.declared.values.Promise.{Promise}
use Rattle.bully_member.specs.declared.values.Request.{Request}
use Rattle.bully_member.specs.declared.values.SessionId.{SessionId}
use Rattle.bully_member.specs.declared.values.SessionState.{SessionState}
use Rattle.bully_member.specs.declared.values.Step.{Step}
use Rattle.bully_member.specs.declared.values.StoreAnswer.{StoreAnswer}
use Rattle.bully_run.specs.Calls.{AsksFor}

-- Whichever way a test goes, and whether or not an answer counts.

pub if_is : (Is : MemberState → Type 0) (b : Bool) (x y : MemberState) → Is x → Is y → Is (if b then x else y)
if_is Is true x y x_is y_is = x_is
if_is Is false x y x_is y_is = y_is

acquired_if : (Is : MemberState → Type 0) (state : SessionState) (m after : MemberState) → Is m → Is after → Is (acquired_by state m after)
acquired_if Is SessionState.Absent m after is becomes = becomes
acquired_if Is (SessionState.Unknown session) m after is becomes = is
acquired_if Is (SessionState.Live session at) m after is becomes = is

renewed_if : (Is : MemberState → Type 0) (state : SessionState) (m after : MemberState) → Is m → Is after → Is (renewed_by state m after)
renewed_if Is SessionState.Absent m after is becomes = is
renewed_if Is (SessionState.Unknown session) m after is becomes = is
renewed_if Is (SessionState.Live session at) m after is becomes = becomes

-- Only this changes.

abbrev pub IsReported : (m after : MemberState) → Type 0
IsReported m after = after ≡ record m {
  session = after.session;
  own = after.own;
  is_exact = after.is_exact;
  needs_snapshot = after.needs_snapshot;
  is_past = after.is_past;
  paused = after.paused;
  asked = after.asked;
}

-- what is said of a lease that it has, by the session and since when it counts; and of a request that it awaits
abbrev pub Counts : (SessionId → ℕ → Type 0) → SessionState → Type 0
Counts counts (SessionState.Live session since) = counts session since
Counts counts state = Unit {0}

abbrev pub Awaited : (Request → ℕ → Type 0) → Option Asked → Type 0
Awaited asks None = Unit {0}
Awaited asks (Some asked) = asks asked.request asked.at

-- if the answer is that it is done, this is said of the lease that was asked for
abbrev pub Grants : (SessionId → ℕ → Type 0) → StoreAnswer → Request → ℕ → Type 0
Grants counts answer request at = (session : SessionId) → answer ≡ StoreAnswer.Done → AsksFor session (Step.Ask request) → counts session at

-- then it awaits this
abbrev pub IsTold : (SessionId → ℕ → Type 0) → Option Asked → (m after : MemberState) → Type 0
IsTold counts asked m after = IsReported m after × (after.needs_snapshot ≡ false → m.needs_snapshot ≡ false) × Counts counts after.session × (after.asked ≡ asked)

module _ (counts : SessionId → ℕ → Type 0) where
  abbrev Has : MemberState → Type 0
  Has m = Counts counts m.session

  abbrev Is : (m after : MemberState) → Type 0
  Is m after = IsTold counts m.asked m after

  never : (b : Bool) → true ≡ false → b ≡ false
  never b is = absurd (cc is)

  stays : (m : MemberState) → Has m → Is m m
  stays m has = (refl, (λ fresh. fresh), has, refl)

  again : (m : MemberState) → Has m → Is m (to_snapshot m)
  again m has = (refl, never m.needs_snapshot, has, refl)

  over : (m : MemberState) → Has m → Is m (to_end_session m)
  over m has = (refl, never m.needs_snapshot, tt, refl)

  acquired_told : (m : MemberState) (now : ℕ) (answer : StoreAnswer) (session : SessionId) (offset at : ℕ) → Has m → (answer ≡ StoreAnswer.Done → counts session at) → Is m (when_acquired m now answer session offset at)
  acquired_told m now StoreAnswer.Done session offset at has count = (refl, never m.needs_snapshot, count refl, refl)
  acquired_told m now StoreAnswer.Refused session offset at has count = again m has
  acquired_told m now StoreAnswer.Unanswered session offset at has count = (refl, never m.needs_snapshot, tt, refl)

  renewed_told : (m : MemberState) (now : ℕ) (answer : StoreAnswer) (session : SessionId) (at : ℕ) → Has m → (answer ≡ StoreAnswer.Done → counts session at) → Is m (when_renewed m now answer session at)
  renewed_told m now StoreAnswer.Done session at has count = (refl, (λ fresh. fresh), count refl, refl)
  renewed_told m now StoreAnswer.Refused session at has count = over m has
  renewed_told m now StoreAnswer.Unanswered session at has count = (refl, (λ fresh. fresh), has, refl)

  when_told : (m : MemberState) (now : ℕ) (answer : StoreAnswer) (request : Request) (at : ℕ) → Has m → Grants counts answer request at → Is m (when_answered m now answer request at)
  when_told m now answer (Request.Acquire session offset) at has grants = acquired_if (Is m) m.session m _ (stays m has) (acquired_told m now answer session offset at has (λ done. grants session done refl))
  when_told m now answer (Request.Renew session) at has grants = renewed_if (Is m) m.session m _ (stays m has) (renewed_told m now answer session at has (λ done. grants session done refl))
  when_told m now StoreAnswer.Done (Request.Release session) at has grants = over m has
  when_told m now StoreAnswer.Refused (Request.Release session) at has grants = over m has
  when_told m now StoreAnswer.Unanswered (Request.Release session) at has grants = (refl, never m.needs_snapshot, tt, refl)
  when_told m now answer Request.Snapshot at has grants = (refl, (λ fresh. fresh), has, refl)
  when_told m now StoreAnswer.Done (Request.Promise session offset) at has grants = (refl, (λ fresh. fresh), has, refl)
  when_told m now StoreAnswer.Refused (Request.Promise session offset) at has grants = again m has
  when_told m now StoreAnswer.Unanswered (Request.Promise session offset) at has grants = (refl, never m.needs_snapshot, has, refl)
  when_told m now StoreAnswer.Done (Request.Append offset) at has grants = again m has
  when_told m now StoreAnswer.Refused (Request.Append offset) at has grants = again m has
  when_told m now StoreAnswer.Unanswered (Request.Append offset) at has grants = (refl, never m.needs_snapshot, has, refl)
  when_told m now StoreAnswer.Done (Request.RollOver offset) at has grants = (refl, (λ fresh. fresh), has, refl)
  when_told m now StoreAnswer.Refused (Request.RollOver offset) at has grants = again m has
  when_told m now StoreAnswer.Unanswered (Request.RollOver offset) at has grants = (refl, never m.needs_snapshot, has, refl)
  when_told m now answer Request.Follow at has grants = (refl, (λ fresh. fresh), has, refl)

  pub answered_told : (m : MemberState) (now : ℕ) (answer : StoreAnswer) → Counts counts m.session → Awaited (Grants counts answer) m.asked → IsTold counts None m (answered m now answer)
  answered_told m now answer has grants = by_asked m.asked refl grants
    where
      by_asked : (asked : Option Asked) → m.asked ≡ asked → Awaited (Grants counts answer) asked → IsTold counts None m (answered_by m now answer asked)
      by_asked None is grants_it = (refl, (λ fresh. fresh), has, is)
      by_asked (Some asked) is grants_it = when_told (record m { asked = None }) now answer asked.request asked.at has grants_it

  pub own_told : (m : MemberState) (state : SessionState) (here : Option Lease) → Counts counts m.session → IsTold counts m.asked m (own_by m state here)
  own_told m SessionState.Absent here has = stays m has
  own_told m (SessionState.Unknown session) here has = stays m has
  own_told m (SessionState.Live session since) here has = by_own (own_promise m session here)
    where
      by_own : (own : Option (Promise × Bool)) → Is m (own_by_promise m own)
      by_own None = over m has
      by_own (Some own) = (refl, (λ fresh. fresh), has, refl)

-- whatever is said of these
any_count : (state : SessionState) → Counts (λ session since. Unit {0}) state
any_count SessionState.Absent = tt
any_count (SessionState.Unknown session) = tt
any_count (SessionState.Live session since) = tt

any_granted : (answer : StoreAnswer) (asked : Option Asked) → Awaited (Grants (λ session since. Unit {0}) answer) asked
any_granted answer None = tt
any_granted answer (Some asked) = λ session done asks. tt

pub answered_reported : (m : MemberState) (now : ℕ) (answer : StoreAnswer) → IsReported m (answered m now answer)
answered_reported m now answer = (answered_told (λ session since. Unit {0}) m now answer (any_count m.session) (any_granted answer m.asked)).0

pub own_reported : (m : MemberState) (state : SessionState) (here : Option Lease) → IsReported m (own_by m state here)
own_reported m state here = (own_told (λ session since. Unit {0}) m state here (any_count m.session)).0
