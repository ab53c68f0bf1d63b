-- What is due to a calm member.
use Rattle.std.proofs.Common.{◌≡◌, ◌<◌, ◌+◌, ◌&&◌, ◌||◌, ◌==◌, not, if◌then◌else◌, ℕ, Bool, true, false, Option, Some, None, nat_lt, arith, refl, ap, ◌∙◌}
use Rattle.std.specs.List.{list_any}
use Rattle.bully_member.specs.Activities.{any_stopping, any_working}
use Rattle.bully_member.specs.Due.{Sees, admission_wait, due, going_step, is_admitted_since, is_due, is_newcomer, is_none_of, is_outdated, live_step, session_step, stable_step, step_by_work, step_of_session, step_unless_awaiting, stopping_step, token_now, turn_step, unstable_step}
use Rattle.bully_member.specs.Member.{MemberState, has_promised, is_affected, offset_of}
use Rattle.bully_member.specs.Times.{pause_left, paused_backoff, renewal_left, sure}
use Rattle.bully_member.specs.declared.values.Reason.{Reason}
use Rattle.bully_member.specs.declared.values.Request.{Request}
use Rattle.bully_member.specs.declared.values.SessionId.{SessionId}
use Rattle.bully_member.specs.declared.values.Sight.{Sight}
use Rattle.bully_member.specs.declared.values.Step.{Step}
use Rattle.bully_member.specs.declared.values.Until.{Until}
use Rattle.bully_round.specs.Progress.{IsCalm, is_task, step_at_rest, to_begin, to_do, to_do_seen, to_do_then, to_promise, unless}

pub if_not : (b : Bool) (x y : Step) → b ≡ false → (if b then x else y) ≡ y
if_not true x y is = absurd (cc is)
if_not false x y is = refl

or_not : (a b : Bool) → b ≡ false → a || b ≡ a
or_not true b is = refl
or_not false b is = is

and_not : (a b : Bool) → a ≡ false → a && b ≡ false
and_not true b is = absurd (cc is)
and_not false b is = refl

if_same : (b c : Bool) (x y : Step) → b ≡ c → (if b then x else y) ≡ (if c then x else y)
if_same b c x y is = ap (λ d. if d then x else y) is

no_pause : (n : ℕ) → n ≡ 0 → nat_lt 0 n ≡ false
no_pause n is = ap (nat_lt 0) is

-- The rules that are left for a calm member.

abbrev pub step_seen : MemberState → ℕ → Sight → SessionId → Step
step_seen m now s session = if s.is_stable then stable_step m now s.has_all (token_now m) else unstable_step m now session

abbrev pub step_then : MemberState → ℕ → Sight → SessionId → Step
step_then m now s session = if m.needs_snapshot then Step.Ask Request.Snapshot else step_seen m now s session

abbrev pub calm_step : MemberState → ℕ → Sight → SessionId → Step
calm_step m now s session = if not s.may_go_on then Step.Stop else step_then m now s session

module _ (m : MemberState) (now : ℕ) (s : Sight) (calm : IsCalm m now) where
  live_is : live_step m now s calm.session ≡ step_then m now s calm.session
  live_is = if_not m.is_past (Step.Ask Request.Follow) (if is_outdated m now then Step.Ask Request.Snapshot else step_seen m now s calm.session) calm.within
      ∙ if_same (is_outdated m now) m.needs_snapshot (Step.Ask Request.Snapshot) (step_seen m now s calm.session) (or_not m.needs_snapshot (list_any (is_admitted_since m now) m.leases) calm.quiet)

  of_session_is : step_of_session m now s calm.session m.ending ≡ step_then m now s calm.session
  of_session_is = ap (step_of_session m now s calm.session) calm.going ∙ live_is

  session_is : session_step m now s m.session ≡ step_then m now s calm.session
  session_is = ap (session_step m now s) calm.live
      ∙ if_not (is_due m now) (Step.Ask (Request.Renew calm.session)) (step_of_session m now s calm.session m.ending) (and_not (renewal_left m.session m.ttl now == 0) (is_none_of m.ending || sure m.session m.ttl now) calm.early)
      ∙ of_session_is

  going_is : going_step m now s ≡ step_then m now s calm.session
  going_is = if_not (nat_lt 0 (pause_left m.paused m.ttl now)) (Step.BackOff (paused_backoff (any_working m.works) m.session m.ttl now m.paused) Reason.Pause) (session_step m now s m.session) (no_pause (pause_left m.paused m.ttl now) calm.rested)
      ∙ session_is

  work_is : step_by_work m now s ≡ step_then m now s calm.session
  work_is = if_not (any_stopping m.works) (stopping_step m now m.session) (going_step m now s) calm.free ∙ going_is

  asked_is : step_unless_awaiting m now s m.asked ≡ step_then m now s calm.session
  asked_is = ap (step_unless_awaiting m now s) calm.answered ∙ work_is

  pub due_is : due m now s ≡ calm_step m now s calm.session
  due_is = ap (λ x. if not s.may_go_on then Step.Stop else x) asked_is

-- Something is left exactly if the step does some of it.

none_left : (n : ℕ) → n ≡ 0 → 0 < n → ⊥
none_left n is some = omega (arith, is, some)

begins_if : (may has same : Bool) (wait begin : Step) → may ≡ true → 0 < unless (may && (has && same)) → is_task begin ≡ true → is_task (if has && same then wait else begin) ≡ true
begins_if false has same wait begin may some task = absurd (cc may)
begins_if true true true wait begin may some task = absurd (none_left 0 refl some)
begins_if true true false wait begin may some task = task
begins_if true false same wait begin may some task = task

promises_if : (new affected may has : Bool) (wait promise turn : Step) → may ≡ true → 0 < unless (new || (not affected || (may && has))) → is_task promise ≡ true
    → is_task (if new then wait else if not (not affected || has) then promise else turn) ≡ true
promises_if true affected may has wait promise turn is some task = absurd (none_left 0 refl some)
promises_if false false may has wait promise turn is some task = absurd (none_left 0 refl some)
promises_if false true false has wait promise turn is some task = absurd (cc is)
promises_if false true true true wait promise turn is some task = absurd (none_left 0 refl some)
promises_if false true true false wait promise turn is some task = task

waits_if : (may has same : Bool) (wait begin : Step) → may ≡ true → unless (may && (has && same)) ≡ 0 → (if has && same then wait else begin) ≡ wait
waits_if false has same wait begin may none = absurd (cc may)
waits_if true true true wait begin may none = refl
waits_if true true false wait begin may none = absurd (omega (arith, none))
waits_if true false same wait begin may none = absurd (omega (arith, none))

ready_if : (new affected may has : Bool) (wait promise turn : Step) → may ≡ true → unless (new || (not affected || (may && has))) ≡ 0
    → (if new then wait else if not (not affected || has) then promise else turn) ≡ (if new then wait else turn)
ready_if true affected may has wait promise turn is none = refl
ready_if false false may has wait promise turn is none = refl
ready_if false true false has wait promise turn is none = absurd (cc is)
ready_if false true true true wait promise turn is none = refl
ready_if false true true false wait promise turn is none = absurd (omega (arith, none))

module _ (m : MemberState) (now : ℕ) (s : Sight) (session : SessionId) where
  begin_acts : (token : Option ℕ) → s.may_go_on ≡ true → 0 < to_begin m s token → is_task (stable_step m now s.has_all token) ≡ true
  begin_acts None may some = absurd (none_left 0 refl some)
  begin_acts (Some token) may some = begins_if s.may_go_on s.has_all (token == m.token) (Step.Wait (admission_wait m now) Until.AnyIdle Reason.Stable) (Step.Begin token) may some refl

  seen_acts : (stable : Bool) → s.may_go_on ≡ true → 0 < (if stable then to_begin m s (token_now m) else to_promise m s) → is_task (if stable then stable_step m now s.has_all (token_now m) else unstable_step m now session) ≡ true
  seen_acts true may some = begin_acts (token_now m) may some
  seen_acts false may some = promises_if (is_newcomer m) (is_affected m m.terms.node) s.may_go_on (has_promised m) (Step.Wait (admission_wait m now) Until.News Reason.Admission) (Step.Ask (Request.Promise session (offset_of m))) (turn_step m now) may some refl

  then_acts : (needs : Bool) → s.may_go_on ≡ true → 0 < (if needs then 3 else to_do_seen m s) → is_task (if needs then Step.Ask Request.Snapshot else step_seen m now s session) ≡ true
  then_acts true may some = refl
  then_acts false may some = seen_acts s.is_stable may some

  acts_if : (may : Bool) → s.may_go_on ≡ may → 0 < unless may + to_do_then m s → is_task (if not may then Step.Stop else step_then m now s session) ≡ true
  acts_if true may some = then_acts m.needs_snapshot may (omega (arith, some))
  acts_if false may some = refl

  begin_rests : (token : Option ℕ) → s.may_go_on ≡ true → to_begin m s token ≡ 0 → stable_step m now s.has_all token ≡ step_at_rest m now true
  begin_rests None may none = refl
  begin_rests (Some token) may none = waits_if s.may_go_on s.has_all (token == m.token) (Step.Wait (admission_wait m now) Until.AnyIdle Reason.Stable) (Step.Begin token) may none

  seen_rests : (stable : Bool) → s.may_go_on ≡ true → (if stable then to_begin m s (token_now m) else to_promise m s) ≡ 0 → (if stable then stable_step m now s.has_all (token_now m) else unstable_step m now session) ≡ step_at_rest m now stable
  seen_rests true may none = begin_rests (token_now m) may none
  seen_rests false may none = ready_if (is_newcomer m) (is_affected m m.terms.node) s.may_go_on (has_promised m) (Step.Wait (admission_wait m now) Until.News Reason.Admission) (Step.Ask (Request.Promise session (offset_of m))) (turn_step m now) may none

  then_rests : (needs : Bool) → s.may_go_on ≡ true → (if needs then 3 else to_do_seen m s) ≡ 0 → (if needs then Step.Ask Request.Snapshot else step_seen m now s session) ≡ step_at_rest m now s.is_stable
  then_rests true may none = absurd (omega (arith, none))
  then_rests false may none = seen_rests s.is_stable may none

  rests_if : (may : Bool) → s.may_go_on ≡ may → unless may + to_do_then m s ≡ 0 → (if not may then Step.Stop else step_then m now s session) ≡ step_at_rest m now s.is_stable
  rests_if true may none = then_rests m.needs_snapshot may (omega (arith, none))
  rests_if false may none = absurd (omega (arith, none))

pub acts_lem : (m : MemberState) (now : ℕ) (s : Sight) → IsCalm m now → Sees m now s → 0 < to_do m s → is_task (due m now s) ≡ true
acts_lem m now s calm sees some = ap is_task (due_is m now s calm) ∙ acts_if m now s calm.session s.may_go_on refl some

pub rests_lem : (m : MemberState) (now : ℕ) (s : Sight) → IsCalm m now → Sees m now s → to_do m s ≡ 0 → due m now s ≡ step_at_rest m now s.is_stable
rests_lem m now s calm sees none = due_is m now s calm ∙ rests_if m now s calm.session s.may_go_on refl none
