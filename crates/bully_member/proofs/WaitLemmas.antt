-- What is due waits only for a reason that holds.
use Rattle.std.proofs.Common.{rules, ◌≡◌, ◌<◌, ◌≤◌, ◌-◌, ◌&&◌, ◌||◌, ◌==◌, ◌↔◌, ◌⊎◌, inl, inr, not, ℕ, suc, Bool, true, false, List, [], ◌∷◌, Option, Some, None, Contains, cond, if◌then◌else◌, nat_lt, min, max, fold, filter, arith, refl, sym, ap, ◌∙◌}
use Rattle.std.proofs.lemmas.Bool.Decides.{nat_tests}
use Rattle.std.specs.List.{list_all, list_any}
use Rattle.std.specs.Prelude.{IsTrue}
use Rattle.bully_member.proofs.KeepLemmas.{both, first_not, twice}
use Rattle.bully_member.proofs.SureLemmas.{sure_if_works}
use Rattle.bully_member.specs.Activities.{any_stopping, any_working}
use Rattle.bully_member.specs.Due.{HasAllOf, Sees, absent_step, acquiring_step, admission_wait, change_step, due, ending_step, going_step, is_admitted_since, is_due, is_leaving, is_newcomer, is_none_of, is_outdated, is_to_come, last_table, leaving_step, live_step, looks_ahead, rebalance_left, session_step, stable_step, step_by_work, step_of_session, step_unless_awaiting, step_without_session, stopping_step, token_now, turn_step, unstable_step}
use Rattle.bully_member.specs.Member.{MemberState, SeesStable, above, all_ready, has_promised, has_room, is_alone, is_closing, is_down, is_ready, is_ready_itself, are_none, lease_of, stay_left}
use Rattle.bully_member.specs.Times.{awaiting_backoff, left, pause_left, paused_backoff, renewal_left, stopping_backoff, sure, sure_left, turn_left}
use Rattle.bully_member.specs.Waiting.{HasItsLease, HasNoLease, HasNoMore, IsHeld, IsReadyToChange, IsTimely, LacksAnother, WaitsFor}
use Rattle.bully_member.specs.declared.values.Asked.{Asked}
use Rattle.bully_member.specs.declared.values.Ending.{Ending}
use Rattle.bully_member.specs.declared.values.Lease.{Lease}
use Rattle.bully_member.specs.declared.values.SessionId.{SessionId}
use Rattle.bully_member.specs.declared.values.SessionState.{SessionState}
use Rattle.bully_member.specs.declared.values.Sight.{Sight}
use Rattle.bully_member.specs.declared.values.Step.{Step}

-- whichever way a test goes
waits_if : (m : MemberState) (now : ℕ) (b : Bool) (x y : Step) → (b ≡ true → WaitsFor m now x) → (b ≡ false → WaitsFor m now y) → WaitsFor m now (if b then x else y)
waits_if m now true x y then_x else_y = then_x refl
waits_if m now false x y then_x else_y = else_y refl

-- Numbers and tests.

more_than_none : (n : ℕ) → nat_lt 0 n ≡ true → 0 < n
more_than_none n is = grind (arith, nat_tests, is)

none_at_all : (n : ℕ) → nat_lt 0 n ≡ false → n ≡ 0
none_at_all n is = grind (arith, nat_tests, is)

some_left : (n : ℕ) → (n == 0) ≡ false → 0 < n
some_left n is = grind (arith, nat_tests, is)

least_of : (a b : ℕ) → 0 < a → 0 < b → (0 < min a b) × (min a b ≤ a)
least_of a b one other = (grind (arith, nat_tests, one, other), grind (arith, nat_tests))

-- a back-off while work stops, and no request was given up: a renewal isn't due
stopping_time : (b : Bool) (renewal pause lasts : ℕ) → ((if b then min (max renewal pause) lasts else max renewal pause) == 0) ≡ false → nat_lt 0 pause ≡ false → 0 < renewal
stopping_time true renewal pause lasts some none = grind (arith, nat_tests, some, none)
stopping_time false renewal pause lasts some none = grind (arith, nat_tests, some, none)

pause_time : (b : Bool) (pause lasts : ℕ) → 0 < pause → (b ≡ true → 0 < lasts) → 0 < (if b then min pause lasts else pause)
pause_time true pause lasts some works = (least_of pause lasts some (works refl)).0
pause_time false pause lasts some works = some

answer_time : (b : Bool) (lasts ttl : ℕ) → (b ≡ true → 0 < lasts) → 0 < ttl → 0 < (if b then lasts else ttl)
answer_time true lasts ttl works some = works refl
answer_time false lasts ttl works some = some

within_ttl : (b : Bool) (ttl past : ℕ) → (if b then 0 else ttl - past) ≤ ttl
within_ttl true ttl past = omega arith
within_ttl false ttl past = omega arith

not_ready : (b : Bool) → not b ≡ true → b ≡ false
not_ready true is = absurd (cc is)
not_ready false is = refl

second_not : (a b : Bool) → a || b ≡ false → b ≡ false
second_not true b is = absurd (cc is)
second_not false b is = is

other_not : (a b : Bool) → a ≡ true → a && b ≡ false → b ≡ false
other_not true b is never = never
other_not false b is never = absurd (cc is)

early_of : (b n c : Bool) → b && (n || c) ≡ false → n ≡ true → b ≡ false
early_of true true c before none = absurd (cc before)
early_of true false c before none = absurd (cc none)
early_of false n c before none = refl

same_token : (a b : ℕ) → (a == b) ≡ true → a ≡ b
same_token a b is = grind (arith, nat_tests, is)

-- one that doesn't pass a test that not all pass
not_all : (test : Lease → Bool) (leases : List Lease) → list_all test leases ≡ false → (lease : Lease) × Contains leases lease × (test lease ≡ false)
not_all test [] is = absurd (cc is)
not_all test (p ∷ ps) is = by_test (test p) refl (λ passes. not_all test ps (other_not (test p) (list_all test ps) passes is))
  where
    by_test : (b : Bool) → test p ≡ b → (test p ≡ true → (lease : Lease) × Contains ps lease × (test lease ≡ false)) → (lease : Lease) × Contains (p ∷ ps) lease × (test lease ≡ false)
    by_test false never more = (p, (0, omega arith, refl), never)
    by_test true passes more = let rest = more passes in (rest.0, (suc rest.1.0, omega arith, rest.1.2), rest.2)

lacks : (coop unknown ready : Bool) (test : Lease → Bool) (leases : List Lease) → (coop || not unknown) && ready && list_all test leases ≡ false → ready ≡ true
    → ((coop ≡ false) × (unknown ≡ true)) ⊎ ((lease : Lease) × Contains leases lease × (test lease ≡ false))
lacks false true ready test leases is itself = inl (refl, refl)
lacks true unknown true test leases is itself = inr (not_all test leases is)
lacks false false true test leases is itself = inr (not_all test leases is)
lacks true unknown false test leases is itself = absurd (cc itself)
lacks false false false test leases is itself = absurd (cc itself)

module _ (m : MemberState) (now : ℕ) (s : Sight) (tells : Sees m now s) where
  -- How long it waits while nothing is new.

  abbrev soonest : ℕ → Lease → ℕ
  soonest least p = min least (stay_left m.arrivals now p.node)

  abbrev after : ℕ → List Lease → ℕ
  after least leases = fold soonest least (filter (is_to_come m) leases)

  wait_more : (leases : List Lease) (least : ℕ) → 0 < least → list_any (is_admitted_since m now) leases ≡ false → (0 < after least leases) × (after least leases ≤ least)
  wait_more [] least some none = (some, omega arith)
  wait_more (p ∷ ps) least some none = by_test (is_to_come m p) refl (λ l more. wait_more ps l more (second_not (is_admitted_since m now p) _ none))
    where
      by_test : (b : Bool) → is_to_come m p ≡ b → ((l : ℕ) → 0 < l → (0 < after l ps) × (after l ps ≤ l))
          → (0 < fold soonest least (cond b (p ∷ filter (is_to_come m) ps) (filter (is_to_come m) ps))) × (fold soonest least (cond b (p ∷ filter (is_to_come m) ps) (filter (is_to_come m) ps)) ≤ least)
      by_test false never rest = rest least some
      by_test true comes rest =
          let stays = some_left (stay_left m.arrivals now p.node) (other_not (is_to_come m p) _ comes (first_not (is_admitted_since m now p) _ none)) in
          let first = least_of least (stay_left m.arrivals now p.node) some stays in
          let more = rest (soonest least p) first.0 in
          (more.0, omega (arith, more.1, first.1))

  timely_admission : HasItsLease m now → IsTimely m now (admission_wait m now)
  timely_admission has =
      let wait = wait_more m.leases (renewal_left m.session m.ttl now) (some_left _ has.early) (second_not m.needs_snapshot _ has.fresh) in
      (λ some. wait.0, wait.1)

  -- The rules, from the last to the first.

  change_waits : IsReadyToChange m now → turn_left (above m) m.ttl now m.last_change.at ≡ 0 → WaitsFor m now (change_step m now)
  change_waits ready come = waits_if m now (not (all_ready m)) _ _
      (λ others. ((ready, come, lacks m.terms.is_cooperative m.has_unknown (is_ready_itself m) (is_ready m) m.leases (not_ready (all_ready m) others) ready.promised), refl, (λ some. some_left _ ready.has.early, omega arith)))
      (λ all. waits_if m now (is_closing m) _ _ (λ closing. tt) (λ goes_on. tt))

  turn_waits : IsReadyToChange m now → WaitsFor m now (turn_step m now)
  turn_waits ready = waits_if m now (nat_lt 0 (turn_left (above m) m.ttl now m.last_change.at)) _ _
      (λ turn. let least = least_of (renewal_left m.session m.ttl now) (turn_left (above m) m.ttl now m.last_change.at) (some_left _ ready.has.early) (more_than_none _ turn) in
      ((ready, more_than_none _ turn), refl, (λ some. least.0, least.1)))
      (λ come. change_waits ready (none_at_all _ come))

  unstable_waits : (session : SessionId) → HasItsLease m now → (SeesStable m → ⊥) → WaitsFor m now (unstable_step m now session)
  unstable_waits session has unstable = waits_if m now (is_newcomer m) _ _ (λ is. ((has, unstable, is), refl, timely_admission has))
      (λ admitted. waits_if m now (not (is_ready_itself m)) _ _ (λ promises. tt)
      (λ ready. turn_waits (record { has = has; unstable = unstable; admitted = admitted; promised = twice (is_ready_itself m) ready })))

  stable_waits : HasItsLease m now → (token : Option ℕ) → token_now m ≡ token → s.is_stable ≡ true → WaitsFor m now (stable_step m now s.has_all token)
  stable_waits has None owner stable = ((has, tells.stable.0 (search (rules, stable)), no_more (token_now m) owner), refl, timely_admission has)
    where
      no_more : (token : Option ℕ) → token ≡ None → HasNoMore m token
      no_more None is = tt
      no_more (Some token) is = absurd (cc is)
  stable_waits has (Some token) owner stable = waits_if m now (s.has_all && (token == m.token)) _ _
      (λ all. let (has_all, same) = both s.has_all (token == m.token) all in
      ((has, tells.stable.0 (search (rules, stable)), no_more (token_now m) owner (tells.all.0 (search (rules, has_all))) (same_token token m.token same)), refl, timely_admission has))
      (λ more. tt)
    where
      no_more : (found : Option ℕ) → found ≡ Some token → HasAllOf m (last_table m) → token ≡ m.token → HasNoMore m found
      no_more None is has same = absurd (cc is)
      no_more (Some by) is has same = (cc (is, same), has)

  leaving_waits : (session : SessionId) → WaitsFor m now (leaving_step m s.are_down session)
  leaving_waits session = waits_if m now (is_alone m && not s.are_down && has_room m && not m.has_closed) _ _ (λ last. waits_if m now (has_promised m) _ _ (λ own. tt) (λ other. tt)) (λ others. tt)

  ending_waits : (session : SessionId) (ending : Ending) → WaitsFor m now (ending_step m now s.are_down session ending)
  ending_waits session ending = waits_if m now (not (is_leaving ending) || m.is_past || not (sure m.session m.ttl now)) _ _ (λ release. tt) (λ stays. waits_if m now m.needs_snapshot _ _ (λ snapshot. tt) (λ seen. leaving_waits session))

  live_waits : (session : SessionId) (since : ℕ) → m.session ≡ SessionState.Live session since → (renewal_left m.session m.ttl now == 0) ≡ false → m.ending ≡ None → WaitsFor m now (live_step m now s session)
  live_waits session since is early none = waits_if m now m.is_past _ _ (λ past. tt) (λ within. waits_if m now (is_outdated m now) _ _ (λ snapshot. tt)
      (λ fresh. waits_if m now s.is_stable _ _ (λ stable. stable_waits (has within fresh) (token_now m) refl stable) (λ never. unstable_waits session (has within fresh) (unstable never))))
    where
      has : m.is_past ≡ false → is_outdated m now ≡ false → HasItsLease m now
      has within fresh = record { session = session; since = since; live = is; early = early; going = none; within = within; fresh = fresh }

      unstable : s.is_stable ≡ false → SeesStable m → ⊥
      unstable never sees = absurd (search (rules, tells.stable.1 sees, never))

  of_session_waits : (session : SessionId) (since : ℕ) → m.session ≡ SessionState.Live session since → is_due m now ≡ false → (ending : Option Ending) → m.ending ≡ ending → WaitsFor m now (step_of_session m now s session ending)
  of_session_waits session since is before (Some ending) end = ending_waits session ending
  of_session_waits session since is before None none = live_waits session since is (early_of (renewal_left m.session m.ttl now == 0) (is_none_of m.ending) (sure m.session m.ttl now) before (ap is_none_of none)) none

  without_lease : m.session ≡ SessionState.Absent → renewal_left m.session m.ttl now ≡ m.ttl
  without_lease is = ap (λ l. renewal_left l m.ttl now) is

  acquiring_waits : HasNoLease m → (here : Option Lease) → lease_of m.terms.node m.leases ≡ here → WaitsFor m now (acquiring_step m now here)
  acquiring_waits has (Some p) is = waits_if m now (p.session.process == m.process) _ _ (λ own. tt)
      (λ other. ((has, record { lease = p; there = is; other = other }), refl, (λ some. some, omega (arith, without_lease has.absent))))
  acquiring_waits has None is = waits_if m now (nat_lt 0 (rebalance_left m now)) _ _
      (λ wait. ((has, is, more_than_none _ wait), refl, (λ some. more_than_none _ wait, omega (arith, without_lease has.absent, within_ttl (is_down m m.terms.node || are_none m.leases) m.ttl (now - m.last_change.at))))) (λ free. tt)

  absent_waits : m.session ≡ SessionState.Absent → m.ending ≡ None → WaitsFor m now (absent_step m now)
  absent_waits absent none = waits_if m now m.is_past _ _ (λ past. tt) (λ within. waits_if m now m.needs_snapshot _ _ (λ snapshot. tt)
      (λ fresh. acquiring_waits (record { absent = absent; going = none; within = within; fresh = fresh }) (lease_of m.terms.node m.leases) refl))

  without_session_waits : m.session ≡ SessionState.Absent → (ending : Option Ending) → m.ending ≡ ending → WaitsFor m now (step_without_session m now ending)
  without_session_waits absent (Some ending) is = tt
  without_session_waits absent None is = absent_waits absent is

  session_waits : (session : SessionState) → m.session ≡ session → WaitsFor m now (session_step m now s session)
  session_waits (SessionState.Unknown session) is = tt
  session_waits SessionState.Absent is = without_session_waits is m.ending refl
  session_waits (SessionState.Live session since) is = waits_if m now (is_due m now) _ _ (λ renew. tt) (λ before. of_session_waits session since is before m.ending refl)

  going_waits : s.may_go_on ≡ true → WaitsFor m now (going_step m now s)
  going_waits stays = waits_if m now (nat_lt 0 (pause_left m.paused m.ttl now)) _ _
      (λ pause. (more_than_none _ pause, λ some. pause_time (any_working m.works) (pause_left m.paused m.ttl now) (sure_left m.session m.ttl now) (more_than_none _ pause) (sure_if_works m now s tells stays)))
      (λ asks. session_waits m.session refl)

  stopping_waits : (session : SessionState) → any_stopping m.works ≡ true → WaitsFor m now (stopping_step m now session)
  stopping_waits (SessionState.Live session since) is = waits_if m now (stopping_backoff (any_working m.works) m.session m.ttl now m.paused == 0) _ _ (λ renew. tt)
      (λ early. waits_if m now (not (looks_ahead m now)) _ _ (λ backs_off. (is, λ some. some_left _ early)) (λ looks. waits_if m now m.needs_snapshot _ _ (λ snapshot. tt)
      (λ waits. (is, refl, (λ some. stopping_time (any_working m.works) (renewal_left m.session m.ttl now) (pause_left m.paused m.ttl now) (sure_left m.session m.ttl now) early (no_pause looks), omega arith)))))
    where
      no_pause : not (looks_ahead m now) ≡ false → nat_lt 0 (pause_left m.paused m.ttl now) ≡ false
      no_pause looks = not_ready (nat_lt 0 (pause_left m.paused m.ttl now)) (both (m.terms.is_cooperative && not m.is_past) (not (nat_lt 0 (pause_left m.paused m.ttl now))) (twice (looks_ahead m now) looks)).1
  stopping_waits SessionState.Absent is = (is, λ some. some)
  stopping_waits (SessionState.Unknown session) is = (is, λ some. some)

  unless_awaiting_waits : s.may_go_on ≡ true → (asked : Option Asked) → m.asked ≡ asked → WaitsFor m now (step_unless_awaiting m now s asked)
  unless_awaiting_waits stays (Some asked) is = ((asked, is), λ some. answer_time (any_working m.works) (sure_left m.session m.ttl now) m.ttl (sure_if_works m now s tells stays) some)
  unless_awaiting_waits stays None is = waits_if m now (any_stopping m.works) _ _ (λ stopping. stopping_waits m.session stopping) (λ free. going_waits stays)

  pub waits : WaitsFor m now (due m now s)
  waits = waits_if m now (not s.may_go_on) _ _ (λ stop. tt) (λ stays. unless_awaiting_waits (twice s.may_go_on stays) m.asked refl)
