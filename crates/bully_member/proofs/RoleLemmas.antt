-- A member that isn't about to change the log needs no promise of others.
use Rattle.std.proofs.Common.{◌≡◌, ◌<◌, ◌+◌, ◌-◌, ◌^◌, ◌&&◌, ◌||◌, ◌==◌, not, ℕ, Bool, true, false, List, [], ◌∷◌, Option, Some, None, cond, if◌then◌else◌, nat_lt, min, map, fold, filter, find, arith, refl, sym, subst, ap, ◌∙◌}
use Rattle.std.proofs.lemmas.Bool.Decides.{nat_tests}
use Rattle.std.proofs.lemmas.List.Folds.{fold-map, list_all-map}
use Rattle.std.specs.List.{list_any}
use Rattle.std.specs.Option.{option_map}
use Rattle.bully_base.specs.declared.TheConstants.{NODES_MAX}
use Rattle.bully_member.specs.Activities.{any_stopping}
use Rattle.bully_member.specs.Due.{Sees, absent_step, acquiring_step, admission_wait, change_step, due, ending_step, going_step, is_admitted_since, is_due, is_leaving, is_newcomer, is_outdated, is_to_come, leaving_step, live_step, rebalance_left, session_step, stable_step, step_of_session, step_unless_awaiting, step_without_session, stopping_step, token_now, turn_step, unstable_step}
use Rattle.bully_member.specs.Member.{MemberState, SeesStable, above, are_none, has_room, heeded, heeds_promises, is_alone, is_down, is_held_off, is_ready_itself, lease_of, most_promised, offset_in, offset_of, stay_left}
use Rattle.bully_member.specs.Roles.{needs_promises, unpromised, without_promises}
use Rattle.bully_member.specs.Times.{left, pause_left, renewal_left, sure, turn_left}
use Rattle.bully_member.specs.declared.values.Asked.{Asked}
use Rattle.bully_member.specs.declared.values.Ending.{Ending}
use Rattle.bully_member.specs.declared.values.Lease.{Lease}
use Rattle.bully_member.specs.declared.values.Reason.{Reason}
use Rattle.bully_member.specs.declared.values.Request.{Request}
use Rattle.bully_member.specs.declared.values.SessionId.{SessionId}
use Rattle.bully_member.specs.declared.values.SessionState.{SessionState}
use Rattle.bully_member.specs.declared.values.Sight.{Sight}
use Rattle.bully_member.specs.declared.values.Step.{Step}
use Rattle.bully_member.specs.declared.values.Until.{Until}
use Rattle.bully_rebalance.specs.Stable.{IsStable}

-- Lists of leases without promises.

pub any_map : (test : Lease → Bool) (h : Lease → Lease) (ps : List Lease) → list_any test (map h ps) ≡ list_any (λ p. test (h p)) ps
any_map test h [] = refl
any_map test h (p ∷ ps) = ap (λ b. test (h p) || b) (any_map test h ps)

filter_map_is : (test : Lease → Bool) (h : Lease → Lease) (ps : List Lease) → filter test (map h ps) ≡ map h (filter (λ p. test (h p)) ps)
filter_map_is test h [] = refl
filter_map_is test h (p ∷ ps) = by_test (test (h p)) (filter_map_is test h ps)
  where
    by_test : (b : Bool) → filter test (map h ps) ≡ map h (filter (λ p. test (h p)) ps) → cond b (h p ∷ filter test (map h ps)) (filter test (map h ps)) ≡ map h (cond b (p ∷ filter (λ p. test (h p)) ps) (filter (λ p. test (h p)) ps))
    by_test true same = ap (λ (qs : List Lease). h p ∷ qs) same
    by_test false same = same

find_map_is : (test : Lease → Bool) (h : Lease → Lease) (ps : List Lease) → find test (map h ps) ≡ option_map h (find (λ p. test (h p)) ps)
find_map_is test h [] = refl
find_map_is test h (p ∷ ps) = by_test (test (h p)) (find_map_is test h ps)
  where
    by_test : (b : Bool) → find test (map h ps) ≡ option_map h (find (λ p. test (h p)) ps) → (if b then Some (h p) else find test (map h ps)) ≡ option_map h (if b then Some p else find (λ p. test (h p)) ps)
    by_test true same = refl
    by_test false same = same

none_map : (h : Lease → Lease) (ps : List Lease) → are_none (map h ps) ≡ are_none ps
none_map h [] = refl
none_map h (p ∷ ps) = refl

if_same : {A : Type 0} (b c : Bool) (x y u v : A) → b ≡ c → x ≡ u → y ≡ v → (if b then x else y) ≡ (if c then u else v)
if_same b c x y u v same first second = cc (same, first, second)

if_so : {A : Type 0} (b : Bool) (x y : A) → b ≡ true → (if b then x else y) ≡ x
if_so true x y is = refl
if_so false x y is = absurd (cc is)

if_not : {A : Type 0} (b : Bool) (x y : A) → b ≡ false → (if b then x else y) ≡ y
if_not true x y is = absurd (cc is)
if_not false x y is = refl

some_turn : (n : ℕ) → 0 < n → nat_lt 0 n ≡ true
some_turn n some = grind (arith, nat_tests, some)

-- What it knows if it needs no promises.

pub no_first : (a b : Bool) → (a || b) ≡ false → a ≡ false
no_first true b is = absurd (cc is)
no_first false b is = refl

no_turn : (a is_stable : Bool) (n : ℕ) → (a || (not is_stable && (n == 0))) ≡ false → is_stable ≡ false → 0 < n
no_turn true is_stable n is unstable = absurd (cc is)
no_turn false true n is unstable = absurd (cc unstable)
no_turn false false n is unstable = grind (arith, nat_tests, is)

module _ (m : MemberState) where
  abbrev bare : MemberState
  bare = without_promises m

  abbrev drop : Lease → Lease
  drop = unpromised m.terms.node

  above_same : above bare ≡ above m
  above_same = ap (λ n. min n NODES_MAX) (fold-map (λ (a : ℕ) (p : Lease). a + cond (nat_lt m.terms.node p.node) 1 0) drop 0 m.leases)

  alone_same : is_alone bare ≡ is_alone m
  alone_same = ap (λ b. not m.has_unknown && b) (list_all-map (λ (p : Lease). p.node == m.terms.node) drop m.leases)

  outdated_same : (now : ℕ) → is_outdated bare now ≡ is_outdated m now
  outdated_same now = ap (λ b. m.needs_snapshot || b) (any_map (is_admitted_since bare now) drop m.leases)

  wait_same : (now : ℕ) → admission_wait bare now ≡ admission_wait m now
  wait_same now =
      ap (λ ps. fold (λ (least : ℕ) (p : Lease). min least (stay_left m.arrivals now p.node)) (renewal_left m.session m.ttl now) ps) (filter_map_is (is_to_come bare) drop m.leases)
      ∙ fold-map (λ (least : ℕ) (p : Lease). min least (stay_left m.arrivals now p.node)) drop (renewal_left m.session m.ttl now) (filter (is_to_come m) m.leases)

  lease_same : lease_of m.terms.node bare.leases ≡ option_map drop (lease_of m.terms.node m.leases)
  lease_same = find_map_is (λ p. p.node == m.terms.node) drop m.leases

  heeds_same : heeds_promises bare ≡ heeds_promises m
  heeds_same = ap (λ n. not m.terms.is_cooperative || (n == 0)) above_same

  heeded_same : heeds_promises m ≡ false → heeded bare ≡ heeded m
  heeded_same lower =
      if_not (heeds_promises bare) (most_promised bare) (offset_in m.terms.epoch m.own) (heeds_same ∙ lower)
      ∙ sym (if_not (heeds_promises m) (most_promised m) (offset_in m.terms.epoch m.own) lower)

  bare_stable : heeds_promises m ≡ false → SeesStable m → SeesStable bare
  bare_stable lower stable = record { stable = subst (IsStable m.learned.replica m.group) (sym (heeded_same lower)) stable.stable; behind = stable.behind; goes_on = stable.goes_on }

  stable_bare : heeds_promises m ≡ false → SeesStable bare → SeesStable m
  stable_bare lower stable = record { stable = subst (IsStable m.learned.replica m.group) (heeded_same lower) stable.stable; behind = stable.behind; goes_on = stable.goes_on }

  pub sees_bare : (now : ℕ) (s : Sight) → heeds_promises m ≡ false → Sees m now s → Sees bare now s
  sees_bare now s lower sees = record { stable = (λ is. bare_stable lower (sees.stable.0 is), λ stable. sees.stable.1 (stable_bare lower stable)); down = sees.down; stays = sees.stays; all = sees.all }

  needs_same : (now : ℕ) (is_stable : Bool) → needs_promises bare now is_stable ≡ needs_promises m now is_stable
  needs_same now is_stable =
      ap (λ n. not m.terms.is_cooperative || (n == 0) || (not is_stable && (turn_left n m.ttl now m.last_change.at == 0)) || list_any (is_held_off bare now) bare.leases) above_same
      ∙ ap (λ b. heeds_promises m || (not is_stable && (turn_left (above m) m.ttl now m.last_change.at == 0)) || b) (any_map (is_held_off bare now) drop m.leases)

  early_of : (now : ℕ) (is_stable : Bool) → needs_promises m now is_stable ≡ false → (heeds_promises m || (not is_stable && (turn_left (above m) m.ttl now m.last_change.at == 0))) ≡ false
  early_of now is_stable = no_first (heeds_promises m || (not is_stable && (turn_left (above m) m.ttl now m.last_change.at == 0))) (list_any (is_held_off m now) m.leases)

  lower_of : (now : ℕ) (is_stable : Bool) → needs_promises m now is_stable ≡ false → heeds_promises m ≡ false
  lower_of now is_stable needs = no_first (heeds_promises m) (not is_stable && (turn_left (above m) m.ttl now m.last_change.at == 0)) (early_of now is_stable needs)

  -- What is due, from the last rule to the first.

  turn_same : (now : ℕ) → 0 < turn_left (above m) m.ttl now m.last_change.at → turn_step bare now ≡ turn_step m now
  turn_same now early =
      ap (λ n. let turn = turn_left n m.ttl now m.last_change.at in if nat_lt 0 turn then Step.Wait (min (renewal_left m.session m.ttl now) turn) Until.News Reason.Turn else change_step bare now) above_same
      ∙ if_so (nat_lt 0 (turn_left (above m) m.ttl now m.last_change.at)) _ (change_step bare now) (some_turn _ early)
      ∙ sym (if_so (nat_lt 0 (turn_left (above m) m.ttl now m.last_change.at)) _ (change_step m now) (some_turn _ early))

  unstable_same : (now : ℕ) (session : SessionId) → 0 < turn_left (above m) m.ttl now m.last_change.at → unstable_step bare now session ≡ unstable_step m now session
  unstable_same now session early = if_same (is_newcomer m) (is_newcomer m) _ _ _ _ refl (ap (λ wait. Step.Wait wait Until.News Reason.Admission) (wait_same now))
      (if_same (not (is_ready_itself m)) (not (is_ready_itself m)) _ _ _ _ refl refl (turn_same now early))

  stable_same : (now : ℕ) (has_all : Bool) (token : Option ℕ) → stable_step bare now has_all token ≡ stable_step m now has_all token
  stable_same now has_all None = ap (λ wait. Step.Wait wait Until.AnyIdle Reason.Stable) (wait_same now)
  stable_same now has_all (Some token) = if_same (has_all && (token == m.token)) (has_all && (token == m.token)) _ _ _ _ refl (ap (λ wait. Step.Wait wait Until.AnyIdle Reason.Stable) (wait_same now)) refl

  leaving_same : (are_down : Bool) (session : SessionId) → leaving_step bare are_down session ≡ leaving_step m are_down session
  leaving_same are_down session = if_same (is_alone bare && not are_down && has_room m && not m.has_closed) (is_alone m && not are_down && has_room m && not m.has_closed) _ _ _ _
      (ap (λ b. b && not are_down && has_room m && not m.has_closed) alone_same) refl refl

  ending_same : (now : ℕ) (are_down : Bool) (session : SessionId) (ending : Ending) → ending_step bare now are_down session ending ≡ ending_step m now are_down session ending
  ending_same now are_down session ending = if_same (not (is_leaving ending) || m.is_past || not (sure m.session m.ttl now)) (not (is_leaving ending) || m.is_past || not (sure m.session m.ttl now)) _ _ _ _ refl refl
      (if_same m.needs_snapshot m.needs_snapshot _ _ _ _ refl refl (leaving_same are_down session))

  acquiring_same : (now : ℕ) (here : Option Lease) → acquiring_step bare now (option_map drop here) ≡ acquiring_step m now here
  acquiring_same now (Some p) = refl
  acquiring_same now None = ap (λ wait. if nat_lt 0 wait then Step.Wait wait Until.News Reason.Rebalance else acquire) left_same
    where
      acquire : Step
      acquire = Step.Ask (Request.Acquire (record { process = m.process; number = min (m.tries + 1) (2 ^ 64 - 1) }) (offset_of m))

      left_same : rebalance_left bare now ≡ rebalance_left m now
      left_same = ap (λ b. if is_down m m.terms.node || b then 0 else left now m.ttl m.last_change.at) (none_map drop m.leases)

  absent_same : (now : ℕ) → absent_step bare now ≡ absent_step m now
  absent_same now = if_same m.is_past m.is_past _ _ _ _ refl refl (if_same m.needs_snapshot m.needs_snapshot _ _ _ _ refl refl
      (ap (acquiring_step bare now) lease_same ∙ acquiring_same now (lease_of m.terms.node m.leases)))

  module _ (now : ℕ) (s : Sight) (needs : needs_promises m now s.is_stable ≡ false) where
    by_stable : (b : Bool) (session : SessionId) → s.is_stable ≡ b → (if b then stable_step bare now s.has_all (token_now m) else unstable_step bare now session) ≡ (if b then stable_step m now s.has_all (token_now m) else unstable_step m now session)
    by_stable true session is = stable_same now s.has_all (token_now m)
    by_stable false session is = unstable_same now session (no_turn (heeds_promises m) s.is_stable (turn_left (above m) m.ttl now m.last_change.at) (early_of now s.is_stable needs) is)

    live_same : (session : SessionId) → live_step bare now s session ≡ live_step m now s session
    live_same session = if_same m.is_past m.is_past _ _ _ _ refl refl (if_same (is_outdated bare now) (is_outdated m now) _ _ _ _ (outdated_same now) refl (by_stable s.is_stable session refl))

    of_session_same : (session : SessionId) (ending : Option Ending) → step_of_session bare now s session ending ≡ step_of_session m now s session ending
    of_session_same session (Some ending) = ending_same now s.are_down session ending
    of_session_same session None = live_same session

    without_same : (ending : Option Ending) → step_without_session bare now ending ≡ step_without_session m now ending
    without_same (Some ending) = refl
    without_same None = absent_same now

    session_same : (session : SessionState) → session_step bare now s session ≡ session_step m now s session
    session_same (SessionState.Unknown session) = refl
    session_same SessionState.Absent = without_same m.ending
    session_same (SessionState.Live session since) = if_same (is_due m now) (is_due m now) _ _ _ _ refl refl (of_session_same session m.ending)

    stopping_same : (session : SessionState) → stopping_step bare now session ≡ stopping_step m now session
    stopping_same (SessionState.Unknown session) = refl
    stopping_same SessionState.Absent = refl
    stopping_same (SessionState.Live session since) = refl

    going_same : going_step bare now s ≡ going_step m now s
    going_same = if_same (nat_lt 0 (pause_left m.paused m.ttl now)) (nat_lt 0 (pause_left m.paused m.ttl now)) _ _ _ _ refl refl (session_same m.session)

    unless_same : (asked : Option Asked) → step_unless_awaiting bare now s asked ≡ step_unless_awaiting m now s asked
    unless_same (Some asked) = refl
    unless_same None = if_same (any_stopping m.works) (any_stopping m.works) _ _ _ _ refl (stopping_same m.session) going_same

    pub due_bare : due bare now s ≡ due m now s
    due_bare = if_same (not s.may_go_on) (not s.may_go_on) _ _ _ _ refl refl (unless_same m.asked)

    pub answers_bare : Sees m now s → Sees bare now s × (due bare now s ≡ due m now s) × (needs_promises bare now s.is_stable ≡ false)
    answers_bare sees = (sees_bare now s (lower_of now s.is_stable needs) sees, due_bare, needs_same now s.is_stable ∙ needs)
