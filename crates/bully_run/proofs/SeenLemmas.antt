-- A member begins, and asks for its lease, only after a snapshot: none is due.
use Rattle.std.proofs.Common.{◌≡◌, ◌&&◌, ◌||◌, ◌==◌, not, ℕ, Bool, true, false, Option, Some, None, if◌then◌else◌, nat_lt, refl}
use Rattle.bully_member.specs.Activities.{any_stopping, any_working}
use Rattle.bully_member.specs.Due.{absent_step, acquiring_step, change_step, due, ending_step, going_step, is_due, is_leaving, is_newcomer, is_outdated, leaving_step, live_step, looks_ahead, rebalance_left, session_step, stable_step, step_by_work, step_of_session, step_unless_awaiting, step_without_session, stopping_step, token_now, turn_step, unstable_step}
use Rattle.bully_member.specs.Member.{MemberState, above, all_ready, has_promised, has_room, is_alone, is_closing, is_ready_itself, lease_of}
use Rattle.bully_member.specs.Times.{pause_left, stopping_backoff, sure, turn_left}
use Rattle.bully_member.specs.declared.values.Asked.{Asked}
use Rattle.bully_member.specs.declared.values.Ending.{Ending}
use Rattle.bully_member.specs.declared.values.Lease.{Lease}
use Rattle.bully_member.specs.declared.values.Request.{Request}
use Rattle.bully_member.specs.declared.values.SessionId.{SessionId}
use Rattle.bully_member.specs.declared.values.SessionState.{SessionState}
use Rattle.bully_member.specs.declared.values.Sight.{Sight}
use Rattle.bully_member.specs.declared.values.Step.{Step}

abbrev pub SeenFor : MemberState → Step → Type 0
SeenFor m (Step.Begin token) = m.needs_snapshot ≡ false
SeenFor m (Step.Ask (Request.Acquire session offset)) = m.needs_snapshot ≡ false
SeenFor m other = Unit {0}

either : (a b : Bool) → a || b ≡ false → a ≡ false
either true b is = absurd (cc is)
either false b is = refl

module _ (m : MemberState) (now : ℕ) (s : Sight) where
  seen_if : (b : Bool) (x y : Step) → (b ≡ true → SeenFor m x) → (b ≡ false → SeenFor m y) → SeenFor m (if b then x else y)
  seen_if true x y then_x else_y = then_x refl
  seen_if false x y then_x else_y = else_y refl

  change_seen : SeenFor m (change_step m now)
  change_seen = seen_if (not (all_ready m)) _ _ (λ wait. tt) (λ ready. seen_if (is_closing m) _ _ (λ closing. tt) (λ goes. tt))

  turn_seen : SeenFor m (turn_step m now)
  turn_seen = seen_if (nat_lt 0 (turn_left (above m) m.ttl now m.last_change.at)) _ _ (λ turn. tt) (λ come. change_seen)

  unstable_seen : (session : SessionId) → SeenFor m (unstable_step m now session)
  unstable_seen session = seen_if (is_newcomer m) _ _ (λ waits. tt) (λ member. seen_if (not (is_ready_itself m)) _ _ (λ promises. tt) (λ ready. turn_seen))

  stable_seen : (token : Option ℕ) → m.needs_snapshot ≡ false → SeenFor m (stable_step m now s.has_all token)
  stable_seen None seen = tt
  stable_seen (Some token) seen = seen_if (s.has_all && (token == m.token)) _ _ (λ all. tt) (λ more. seen)

  leaving_seen : (session : SessionId) → SeenFor m (leaving_step m s.are_down session)
  leaving_seen session = seen_if (is_alone m && not s.are_down && has_room m && not m.has_closed) _ _ (λ last. seen_if (has_promised m) _ _ (λ own. tt) (λ other. tt)) (λ others. tt)

  ending_seen : (session : SessionId) (ending : Ending) → SeenFor m (ending_step m now s.are_down session ending)
  ending_seen session ending = seen_if (not (is_leaving ending) || m.is_past || not (sure m.session m.ttl now)) _ _ (λ release. tt) (λ stays. seen_if m.needs_snapshot _ _ (λ snapshot. tt) (λ seen. leaving_seen session))

  live_seen : (session : SessionId) → SeenFor m (live_step m now s session)
  live_seen session = seen_if m.is_past _ _ (λ past. tt) (λ within. seen_if (is_outdated m now) _ _ (λ snapshot. tt)
      (λ seen. seen_if s.is_stable _ _ (λ stable. stable_seen (token_now m) (either m.needs_snapshot _ seen)) (λ unstable. unstable_seen session)))

  of_session_seen : (session : SessionId) (ending : Option Ending) → SeenFor m (step_of_session m now s session ending)
  of_session_seen session (Some ending) = ending_seen session ending
  of_session_seen session None = live_seen session

  acquiring_seen : (here : Option Lease) → m.needs_snapshot ≡ false → SeenFor m (acquiring_step m now here)
  acquiring_seen (Some p) seen = seen_if (p.session.process == m.process) _ _ (λ own. tt) (λ other. tt)
  acquiring_seen None seen = seen_if (nat_lt 0 (rebalance_left m now)) _ _ (λ wait. tt) (λ free. seen)

  absent_seen : SeenFor m (absent_step m now)
  absent_seen = seen_if m.is_past _ _ (λ past. tt) (λ within. seen_if m.needs_snapshot _ _ (λ snapshot. tt) (λ seen. acquiring_seen (lease_of m.terms.node m.leases) seen))

  without_session_seen : (ending : Option Ending) → SeenFor m (step_without_session m now ending)
  without_session_seen (Some ending) = tt
  without_session_seen None = absent_seen

  session_seen : (session : SessionState) → SeenFor m (session_step m now s session)
  session_seen (SessionState.Unknown session) = tt
  session_seen SessionState.Absent = without_session_seen m.ending
  session_seen (SessionState.Live session since) = seen_if (is_due m now) _ _ (λ renew. tt) (λ before. of_session_seen session m.ending)

  going_seen : SeenFor m (going_step m now s)
  going_seen = seen_if (nat_lt 0 (pause_left m.paused m.ttl now)) _ _ (λ pause. tt) (λ asks. session_seen m.session)

  stopping_seen : (session : SessionState) → SeenFor m (stopping_step m now session)
  stopping_seen (SessionState.Live session since) = seen_if (stopping_backoff (any_working m.works) m.session m.ttl now m.paused == 0) _ _ (λ renew. tt)
      (λ early. seen_if (not (looks_ahead m now)) _ _ (λ backs_off. tt) (λ looks. seen_if m.needs_snapshot _ _ (λ snapshot. tt) (λ waits. tt)))
  stopping_seen SessionState.Absent = tt
  stopping_seen (SessionState.Unknown session) = tt

  by_work_seen : SeenFor m (step_by_work m now s)
  by_work_seen = seen_if (any_stopping m.works) _ _ (λ stopping. stopping_seen m.session) (λ free. going_seen)

  unless_awaiting_seen : (asked : Option Asked) → SeenFor m (step_unless_awaiting m now s asked)
  unless_awaiting_seen (Some asked) = tt
  unless_awaiting_seen None = by_work_seen

  pub due_seen : SeenFor m (due m now s)
  due_seen = seen_if (not s.may_go_on) _ _ (λ stop. tt) (λ stays. unless_awaiting_seen m.asked)
