-- What a member asks to release is a session that it has asked for; and if it has its lease then, it ends.
use Rattle.std.proofs.Common.{◌≡◌, ◌≤◌, ◌&&◌, ◌||◌, ◌==◌, ◌∷◌, [], not, ℕ, Bool, true, false, List, Option, Some, None, cond, find, if◌then◌else◌, nat_lt, arith, refl, subst, ap}
use Rattle.std.proofs.lemmas.Bool.Decides.{nat_tests}
use Rattle.std.specs.List.{AllByRecursion}
use Rattle.bully_clock.specs.Timed.{IsAskedLease, ShowsAsked}
use Rattle.bully_member.specs.Activities.{any_stopping, any_working}
use Rattle.bully_member.specs.Due.{acquiring_step, change_step, due, going_step, is_due, is_leaving, is_newcomer, is_outdated, leaving_step, live_step, live_stopping_step, looks_ahead, rebalance_left, session_step, stable_step, step_by_work, step_of_session, step_unless_awaiting, step_without_session, stopping_step, token_now, turn_step, unstable_step}
use Rattle.bully_member.specs.Member.{MemberState, above, all_ready, has_promised, has_room, is_alone, is_closing, is_ready_itself, lease_of}
use Rattle.bully_member.specs.Times.{pause_left, stopping_backoff, sure, turn_left}
use Rattle.bully_member.specs.declared.values.Asked.{Asked}
use Rattle.bully_member.specs.declared.values.Ending.{Ending}
use Rattle.bully_member.specs.declared.values.Lease.{Lease}
use Rattle.bully_member.specs.declared.values.Request.{Request}
use Rattle.bully_member.specs.declared.values.SessionId.{SessionId}
use Rattle.bully_member.specs.declared.values.SessionState.{SessionState}
use Rattle.bully_member.specs.declared.values.Sight.{Sight}
use Rattle.bully_member.specs.declared.values.Step.{Step}
use Rattle.bully_run.proofs.CallLemmas.{IsOwnSession}

-- it ends
abbrev pub IsEnding : Option Ending → Type 0
IsEnding None = ⊥
IsEnding (Some ending) = Unit {0}

-- if it has its lease, it ends
abbrev pub EndsIfLive : SessionState → Option Ending → Type 0
EndsIfLive (SessionState.Live session since) ending = IsEnding ending
EndsIfLive state ending = Unit {0}

-- a session that the process has asked for, whose last one this is
abbrev pub IsAsked : (last session : SessionId) → Type 0
IsAsked last session = (session.process ≡ last.process) × (session.number ≤ last.number)

-- if it doesn't know whether it has its lease, then by its last session
abbrev pub IsUnknownLast : SessionId → SessionState → Type 0
IsUnknownLast last (SessionState.Unknown session) = session ≡ last
IsUnknownLast last state = Unit {0}

-- the sessions that it knows of its own process are those that it has asked for
pub record KnowsAsked (last : SessionId) (m : MemberState) : Type 0 where
  pub unknown : IsUnknownLast last m.session
  pub shown : ShowsAsked last m.leases

-- the session, if the step asks to release one
abbrev pub MayRelease : SessionId → SessionState → Option Ending → Step → Type 0
MayRelease last state ending (Step.Ask (Request.Release session)) = EndsIfLive state ending × IsAsked last session
MayRelease last state ending other = Unit {0}

is_asked : (last session : SessionId) → session ≡ last → IsAsked last session
is_asked last session same = (ap (λ (x : SessionId). x.process) same, let number = ap (λ (x : SessionId). x.number) same in omega (arith, number))

-- the lease that is found for a node is one of them
found_is : (Is : Lease → Type 0) (test : Lease → Bool) (leases : List Lease) (lease : Lease) → AllByRecursion Is leases → find test leases ≡ Some lease → Is lease
found_is Is test [] lease all found = absurd (cc found)
found_is Is test (first ∷ leases) lease (one, rest) found = by_test (found_is Is test leases lease rest) (test first) found
  where
    by_test : (find test leases ≡ Some lease → Is lease) → (b : Bool) → cond b (Some first) (find test leases) ≡ Some lease → Is lease
    by_test later true this = subst Is (let same : first ≡ lease = cc this in same) one
    by_test later false behind = later behind

module _ (last : SessionId) (m : MemberState) (now : ℕ) (s : Sight) (own : m.process ≡ last.process) (knows : KnowsAsked last m) where
  by_test : (state : SessionState) (ending : Option Ending) (b : Bool) (x y : Step) → (b ≡ true → MayRelease last state ending x) → MayRelease last state ending y → MayRelease last state ending (if b then x else y)
  by_test state ending true x y one other = one refl
  by_test state ending false x y one other = other

  module _ (state : SessionState) (ending : Option Ending) where
    abbrev May : Step → Type 0
    May step = MayRelease last state ending step

    pick : (b : Bool) (x y : Step) → May x → May y → May (if b then x else y)
    pick b x y one other = by_test state ending b x y (λ is. one) other

    change_free : May (change_step m now)
    change_free = pick (not (all_ready m)) _ _ tt (pick (is_closing m) _ _ tt tt)

    turn_free : May (turn_step m now)
    turn_free = pick (nat_lt 0 (turn_left (above m) m.ttl now m.last_change.at)) _ _ tt change_free

    unstable_free : (session : SessionId) → May (unstable_step m now session)
    unstable_free session = pick (is_newcomer m) _ _ tt (pick (not (is_ready_itself m)) _ _ tt turn_free)

    stable_free : (token : Option ℕ) → May (stable_step m now s.has_all token)
    stable_free None = tt
    stable_free (Some token) = pick (s.has_all && (token == m.token)) _ _ tt tt

    live_free : (session : SessionId) → May (live_step m now s session)
    live_free session = pick m.is_past _ _ tt (pick (is_outdated m now) _ _ tt (pick s.is_stable _ _ (stable_free (token_now m)) (unstable_free session)))

    stopping_live_free : (session : SessionId) → May (live_stopping_step m now session)
    stopping_live_free session = pick (stopping_backoff (any_working m.works) m.session m.ttl now m.paused == 0) _ _ tt
        (pick (not (looks_ahead m now)) _ _ tt (pick m.needs_snapshot _ _ tt tt))

    stopping_free : (other : SessionState) → May (stopping_step m now other)
    stopping_free (SessionState.Live session since) = stopping_live_free session
    stopping_free SessionState.Absent = tt
    stopping_free (SessionState.Unknown session) = tt

  -- it ends, and has its lease
  leaving_free : (session : SessionId) (since : ℕ) (ending : Ending) → IsAsked last session → MayRelease last (SessionState.Live session since) (Some ending) (leaving_step m s.are_down session)
  leaving_free session since ending asked = pick (SessionState.Live session since) (Some ending) (is_alone m && not s.are_down && has_room m && not m.has_closed) _ _
      (pick (SessionState.Live session since) (Some ending) (has_promised m) _ _ tt tt) (tt, asked)

  of_session_free : (session : SessionId) (since : ℕ) (ending : Option Ending) → IsAsked last session → MayRelease last (SessionState.Live session since) ending (step_of_session m now s session ending)
  of_session_free session since (Some ending) asked = pick (SessionState.Live session since) (Some ending) (not (is_leaving ending) || m.is_past || not (sure m.session m.ttl now)) _ _ (tt, asked)
      (pick (SessionState.Live session since) (Some ending) m.needs_snapshot _ _ tt (leaving_free session since ending asked))
  of_session_free session since None asked = live_free (SessionState.Live session since) None session

  -- it has no lease, and its node's is of its own process
  acquiring_free : (ending : Option Ending) (held : Option Lease) → lease_of m.terms.node m.leases ≡ held → MayRelease last SessionState.Absent ending (acquiring_step m now held)
  acquiring_free ending (Some lease) found = by_test SessionState.Absent ending (lease.session.process == m.process) _ _
      (λ is. let process : lease.session.process ≡ last.process = grind (arith, nat_tests, is, own) in
      (tt, (process, found_is (IsAskedLease last) (λ p. p.node == m.terms.node) m.leases lease knows.shown found process))) tt
  acquiring_free ending None found = pick SessionState.Absent ending (nat_lt 0 (rebalance_left m now)) _ _ tt tt

  absent_free : (ending : Option Ending) → MayRelease last SessionState.Absent ending (step_without_session m now ending)
  absent_free (Some ending) = tt
  absent_free None = pick SessionState.Absent None m.is_past _ _ tt (pick SessionState.Absent None m.needs_snapshot _ _ tt (acquiring_free None (lease_of m.terms.node m.leases) refl))

  session_free : (state : SessionState) → IsOwnSession last state → IsUnknownLast last state → MayRelease last state m.ending (session_step m now s state)
  session_free (SessionState.Unknown session) live unknown = (tt, is_asked last session unknown)
  session_free SessionState.Absent live unknown = absent_free m.ending
  session_free (SessionState.Live session since) live unknown = by_test (SessionState.Live session since) m.ending (is_due m now) _ _ (λ is. tt) (of_session_free session since m.ending (is_asked last session live))

  going_free : IsOwnSession last m.session → MayRelease last m.session m.ending (going_step m now s)
  going_free live = by_test m.session m.ending (nat_lt 0 (pause_left m.paused m.ttl now)) _ _ (λ is. tt) (session_free m.session live knows.unknown)

  by_work_free : IsOwnSession last m.session → MayRelease last m.session m.ending (step_by_work m now s)
  by_work_free live = by_test m.session m.ending (any_stopping m.works) _ _ (λ is. stopping_free m.session m.ending m.session) (going_free live)

  unless_awaiting_free : IsOwnSession last m.session → (asked : Option Asked) → MayRelease last m.session m.ending (step_unless_awaiting m now s asked)
  unless_awaiting_free live (Some asked) = tt
  unless_awaiting_free live None = by_work_free live

  pub due_free : IsOwnSession last m.session → MayRelease last m.session m.ending (due m now s)
  due_free live = by_test m.session m.ending (not s.may_go_on) _ _ (λ is. tt) (unless_awaiting_free live m.asked)
