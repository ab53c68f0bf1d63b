-- What is due keeps the rules.
use Rattle.std.proofs.Common.{rules, ◌≡◌, ◌↔◌, List, [], ◌∷◌, ◌&&◌, ◌||◌, ◌==◌, ◌-◌, ◌+◌, ◌/◌, not, ℕ, suc, Bool, true, false, Option, Some, None, if◌then◌else◌, nat_lt, arith, refl, sym, subst, ap, ◌∙◌}
use Rattle.std.proofs.lemmas.Bool.Decides.{nat_tests}
use Rattle.std.specs.Prelude.{IsTrue}
use Rattle.std.specs.List.{list_all}
use Rattle.bully_member.specs.Activities.{all_idle, any_stopping, any_working, busy, busy_from, works_at}
use Rattle.bully_member.specs.Due.{HasAllOf, MayGoOn, Sees, absent_step, acquiring_step, change_step, due, ending_step, going_step, goes_on, goes_on_by, is_due, last_table, is_leaving, is_newcomer, is_none_of, is_outdated, leaving_step, live_step, looks_ahead, noted, rebalance_left, session_step, stable_step, step_by_work, step_of_session, step_unless_awaiting, step_without_session, stopping_step, table_ahead, table_by, token_now, turn_step, unstable_step}
use Rattle.bully_member.specs.Keeping.{AcquiresAt, AppendsAt, AreReady, Awaits, ChangesAt, Keeps, MayWork, PromisesAt, StopsNothing, WorksOnNothing, WorksOnlyIfSure}
use Rattle.bully_member.specs.Member.{AllAreDown, Foresees, IsForeseen, MemberState, SeesAhead, SeesStable, above, all_ready, has_promised, has_room, is_alone, is_closing, is_in_group, is_ready_itself, lease_of, offset_of, replica_of}
use Rattle.bully_member.specs.Opening.{terms_fault}
use Rattle.bully_member.specs.Times.{pause_left, renewal_left, stopping_backoff, sure, turn_left}
use Rattle.bully_member.specs.declared.opening.Terms.{Terms}
use Rattle.bully_member.specs.declared.values.Activity.{Activity}
use Rattle.bully_member.specs.declared.values.Ahead.{Ahead}
use Rattle.bully_member.specs.declared.values.Asked.{Asked}
use Rattle.bully_member.specs.declared.values.Ending.{Ending}
use Rattle.bully_member.specs.declared.values.Lease.{Lease}
use Rattle.bully_member.specs.declared.values.Request.{Request}
use Rattle.bully_member.specs.declared.values.SessionId.{SessionId}
use Rattle.bully_member.specs.declared.values.SessionState.{SessionState}
use Rattle.bully_member.specs.declared.values.Sight.{Sight}
use Rattle.bully_member.specs.declared.values.Step.{Step}
use Rattle.bully_rebalance.specs.Leaving.{is_left}
use Rattle.bully_replica.specs.Replica.{ReplicaState}

-- both parts of a test that passed
pub both : (a b : Bool) → a && b ≡ true → (a ≡ true) × (b ≡ true)
both true true is = (refl, refl)
both true false is = absurd (cc is)
both false b is = absurd (cc is)

and_then : (a b : Bool) → a ≡ true → b ≡ true → a && b ≡ true
and_then true true a_is b_is = refl
and_then true false a_is b_is = absurd (cc b_is)
and_then false b a_is b_is = absurd (cc a_is)

pub twice : (b : Bool) → not b ≡ false → b ≡ true
twice true is = refl
twice false is = absurd (cc is)

apart : (b : Bool) → b ≡ true → b ≡ false → ⊥
apart b is not_it = absurd (cc (is, not_it))

either : (a b : Bool) → a ≡ true → a || b ≡ false → ⊥
either true b is neither = absurd (cc neither)
either false b is neither = absurd (cc is)

-- one that is in a cooperative group, and no newcomer there
in_group : (a b : Bool) → a && not b ≡ false → a ≡ true → b ≡ true
in_group true true never is = refl
in_group true false never is = absurd (cc never)
in_group false b never is = absurd (cc is)

-- whichever way a test goes, what is due keeps the rules
keeps_if : (m : MemberState) (now : ℕ) (b : Bool) (x y : Step) → (b ≡ true → Keeps m now x) → (b ≡ false → Keeps m now y) → Keeps m now (if b then x else y)
keeps_if m now true x y then_x else_y = then_x refl
keeps_if m now false x y then_x else_y = else_y refl

-- a lease that isn't due to be renewed is sure
pub sure_before : (ttl now since : ℕ) → renewal_left (SessionState.Live (record { process = 0; number = 0 }) since) ttl now == 0 ≡ false → nat_lt (now - since) (ttl - ttl / 5) ≡ true
sure_before ttl now since is = grind (arith, nat_tests, is)

-- a process that isn't to work on anything, and was asked to stop nothing, works on nothing
works_idle : (works : List Activity) → ((k : ℕ) → works_at works k ≡ true → ⊥) → any_stopping works ≡ false → all_idle works ≡ true
works_idle [] none free = refl
works_idle (Activity.Idle ∷ works) none free = works_idle works (λ k is. none (suc k) is) free
works_idle (Activity.Working ∷ works) none free = absurd (none 0 refl)
works_idle (Activity.Stopping ∷ works) none free = absurd (cc free)

-- a test of all on which it works, if it was asked to stop nothing
pub left_all : (works : List Activity) (from : ℕ) (test : ℕ → Bool) → ((d : ℕ) → works_at works d ≡ true → test (from + d) ≡ true) → any_stopping works ≡ false → list_all test (busy_from from works) ≡ true
left_all [] from test all free = refl
left_all (Activity.Idle ∷ works) from test all free = left_all works (suc from) test (λ d is. subst (λ k. test k ≡ true) (omega arith) (all (suc d) is)) free
left_all (Activity.Working ∷ works) from test all free =
    and_then (test from) (list_all test (busy_from (suc from) works)) (subst (λ k. test k ≡ true) (omega arith) (all 0 refl)) (left_all works (suc from) test (λ d is. subst (λ k. test k ≡ true) (omega arith) (all (suc d) is)) free)
left_all (Activity.Stopping ∷ works) from test all free = absurd (cc free)

idle_left : (works : List Activity) (from : ℕ) (test : ℕ → Bool) → all_idle works ≡ true → list_all test (busy_from from works) ≡ true
idle_left [] from test idle = refl
idle_left (Activity.Idle ∷ works) from test idle = idle_left works (suc from) test idle
idle_left (Activity.Working ∷ works) from test idle = absurd (cc idle)
idle_left (Activity.Stopping ∷ works) from test idle = absurd (cc idle)

-- what the table says on which it may go on, the coming one says in an unstable group
to_coming : (goes st by : Bool) (last coming : Option (List ℕ)) (node k : ℕ) → st ≡ false → is_left (table_by (if not goes then Ahead.Nothing else if not st then Ahead.Coming else if by then Ahead.Last else Ahead.Nothing) last coming) node k ≡ true
    → is_left coming node k ≡ true
to_coming true true by last coming node k is left = absurd (cc is)
to_coming true false by last coming node k is left = left
to_coming false st by last coming node k is left = absurd (cc left)

-- no table says on what it may go on
pub no_table : (goes st by : Bool) (last coming : Option (List ℕ)) → goes ≡ false → table_by (if not goes then Ahead.Nothing else if not st then Ahead.Coming else if by then Ahead.Last else Ahead.Nothing) last coming ≡ None
no_table true st by last coming is = absurd (cc is)
no_table false st by last coming is = refl

no_coming : (goes st by : Bool) (last coming : Option (List ℕ)) → st ≡ false → coming ≡ None → table_by (if not goes then Ahead.Nothing else if not st then Ahead.Coming else if by then Ahead.Last else Ahead.Nothing) last coming ≡ None
no_coming true true by last coming is none = absurd (cc is)
no_coming true false by last coming is none = none
no_coming false st by last coming is none = refl

eager_none : (coop closes none : Bool) (table : Option (List ℕ)) → coop ≡ false → (if not coop || closes || none then None else table) ≡ None
eager_none true closes none table is = absurd (cc is)
eager_none false closes none table is = refl

closing_none : (coop closes none : Bool) (table : Option (List ℕ)) → closes ≡ true → (if not coop || closes || none then None else table) ≡ None
closing_none true true none table is = refl
closing_none true false none table is = absurd (cc is)
closing_none false closes none table is = refl

-- what it sees ahead, while no other snapshot is due
ahead_if : (needs : Bool) (r : ReplicaState) (t : Terms) (leases : List Lease) (req : Bool) (group : List ℕ) (coming : Option (List ℕ)) (affected : List ℕ) → needs ≡ false → SeesAhead needs r t leases req group coming affected
    → IsForeseen r t leases req group coming affected
ahead_if true r t leases req group coming affected is sees = absurd (cc is)
ahead_if false r t leases req group coming affected is sees = sees

pub first_not : (a b : Bool) → a || b ≡ false → a ≡ false
first_not true b is = absurd (cc is)
first_not false b is = refl

-- nothing must be stopped, and nothing is stopping
record Frees (m : MemberState) (now : ℕ) (is_stable : Bool) : Type 0 where
  stays : MayGoOn m (table_ahead m now is_stable)
  free : any_stopping m.works ≡ false

-- what it knows of an unstable group, while no snapshot is due
record IsUnstable (m : MemberState) (now : ℕ) (is_stable : Bool) : Type 0 where
  free : Frees m now is_stable
  foresees : Foresees m
  unstable : is_stable ≡ false

-- Each part of what is due, from the last rule to the first.

module _ (m : MemberState) (now : ℕ) (s : Sight) (tells : Sees m now s) (ahead : SeesAhead m.needs_snapshot (replica_of m) m.terms m.leases m.has_request m.group m.coming m.affected) where
  abbrev Free : Type 0
  Free = Frees m now s.is_stable

  abbrev Unstable : Type 0
  Unstable = IsUnstable m now s.is_stable

  -- if no table says on what it may go on, it works on nothing
  idle_of : Free → table_ahead m now s.is_stable ≡ None → all_idle m.works ≡ true
  idle_of free none = works_idle m.works
      (λ k is. absurd (cc (free.stays k is, ap (λ (t : Option (List ℕ)). is_left t m.terms.node k) none))) free.free

  idle_unless : Free → goes_on m now ≡ false → all_idle m.works ≡ true
  idle_unless free never = idle_of free (no_table (goes_on m now) s.is_stable (goes_on_by m (token_now m)) (last_table m) m.coming never)

  idle_unstable : Free → s.is_stable ≡ false → m.coming ≡ None → all_idle m.works ≡ true
  idle_unstable free never none = idle_of free (no_coming (goes_on m now) s.is_stable (goes_on_by m (token_now m)) (last_table m) m.coming never none)

  -- why no work goes on
  not_live : (a b c d : Bool) → a ≡ false → a && b && c && d ≡ false
  not_live true b c d is = absurd (cc is)
  not_live false b c d is = refl

  not_going : (a b c d : Bool) → b ≡ false → a && b && c && d ≡ false
  not_going true true c d is = absurd (cc is)
  not_going true false c d is = refl
  not_going false b c d is = refl

  not_within : (a b past d : Bool) → past ≡ true → a && b && not past && d ≡ false
  not_within true true true d is = refl
  not_within true true false d is = absurd (cc is)
  not_within true false past d is = refl
  not_within false b past d is = refl

  idle_absent : Free → sure m.session m.ttl now ≡ false → all_idle m.works ≡ true
  idle_absent free never = idle_unless free (not_live (sure m.session m.ttl now) (is_none_of m.ending) (not m.is_past) (not m.is_lost) never)

  idle_ending : Free → is_none_of m.ending ≡ false → all_idle m.works ≡ true
  idle_ending free never = idle_unless free (not_going (sure m.session m.ttl now) (is_none_of m.ending) (not m.is_past) (not m.is_lost) never)

  idle_past : Free → m.is_past ≡ true → all_idle m.works ≡ true
  idle_past free is = idle_unless free (not_within (sure m.session m.ttl now) (is_none_of m.ending) m.is_past (not m.is_lost) is)

  idle_eager : Unstable → m.terms.is_cooperative ≡ false → all_idle m.works ≡ true
  idle_eager u eager = idle_unstable u.free u.unstable (u.foresees.comes ∙ eager_none m.terms.is_cooperative (is_closing m) _ _ eager)

  idle_closing : Unstable → is_closing m ≡ true → all_idle m.works ≡ true
  idle_closing u closing = idle_unstable u.free u.unstable (u.foresees.comes ∙ closing_none m.terms.is_cooperative (is_closing m) _ _ closing)

  left_in : Unstable → list_all (is_left m.coming m.terms.node) (busy m.works) ≡ true
  left_in u = left_all m.works 0 (is_left m.coming m.terms.node) (λ k is. at k (to_coming (goes_on m now) s.is_stable (goes_on_by m (token_now m)) (last_table m) m.coming m.terms.node k u.unstable (u.free.stays k is))) u.free.free
    where
      at : (k : ℕ) → is_left m.coming m.terms.node k ≡ true → is_left m.coming m.terms.node (0 + k) ≡ true
      at k is = let same : k ≡ 0 + k = omega arith in subst (λ i. is_left m.coming m.terms.node i ≡ true) same is

  changes : Unstable → m.ending ≡ None → all_ready m ≡ true → ChangesAt m (offset_of m)
  changes u none ready = record { free = u.free.free; idle = idle_eager u; end = refl; foresees = u.foresees; left = left_in u; ready = subst (AreReady m) (sym none) ready }

  change_keeps : Unstable → m.ending ≡ None → is_newcomer m ≡ false → Keeps m now (change_step m now)
  change_keeps u none member = keeps_if m now (not (all_ready m)) _ _ (λ wait. tt)
      (λ ready. keeps_if m now (is_closing m) _ _
      (λ closing. record { changes = changes u none (twice (all_ready m) ready); idle = idle_closing u closing; going = none; closing = closing })
      (λ goes_on. record { changes = changes u none (twice (all_ready m) ready); own = λ going coop. in_group m.terms.is_cooperative (is_in_group m m.terms.node) member coop; goes_on = λ going. goes_on }))

  turn_keeps : Unstable → m.ending ≡ None → is_newcomer m ≡ false → Keeps m now (turn_step m now)
  turn_keeps u none member = keeps_if m now (nat_lt 0 (turn_left (above m) m.ttl now m.last_change.at)) _ _ (λ turn. tt) (λ come. change_keeps u none member)

  -- this session has the lease
  abbrev Has : SessionId → Type 0
  Has session = (since : ℕ) × (m.session ≡ SessionState.Live session since)

  unstable_keeps : (session : SessionId) → Has session → Unstable → m.ending ≡ None → Keeps m now (unstable_step m now session)
  unstable_keeps session has u none = keeps_if m now (is_newcomer m) _ _ (λ waits. tt)
      (λ member. keeps_if m now (not (is_ready_itself m)) _ _ (λ promises. (record { free = u.free.free; idle = idle_eager u; end = refl }, has)) (λ ready. turn_keeps u none member))

  stable_keeps : (token : Option ℕ) → token_now m ≡ token → Free → s.is_stable ≡ true → MayWork m now → Keeps m now (stable_step m now s.has_all token)
  stable_keeps None owner free stable may = tt
  stable_keeps (Some token) owner free stable may = keeps_if m now (s.has_all && (token == m.token)) _ _ (λ all. tt)
      (λ more. record { free = free.free; may = may; is_stable = tells.stable.0 (search (rules, stable)); owner = owner })

  leaving_keeps : (session : SessionId) (ending : Ending) → Has session → m.ending ≡ Some ending → m.needs_snapshot ≡ false → Free → all_idle m.works ≡ true → Keeps m now (leaving_step m s.are_down session)
  leaving_keeps session ending has is seen free idle = keeps_if m now (is_alone m && not s.are_down && has_room m && not m.has_closed) _ _
      (λ last. keeps_if m now (has_promised m) _ _
      (λ own. record {
        changes = record { free = free.free; idle = λ eager. idle; end = refl; foresees = foresees; left = idle_left m.works 0 (is_left m.coming m.terms.node) idle; ready = subst (AreReady m) (sym is) (alone last, own, idle) };
        own = λ none. absurd (cc (none, is));
        goes_on = λ none. absurd (cc (none, is));
      })
      (λ other. (record { free = free.free; idle = λ eager. idle; end = refl }, has)))
      (λ others. idle)
    where
      alone : is_alone m && not s.are_down && has_room m && not m.has_closed ≡ true → is_alone m ≡ true
      alone last = (both (is_alone m) (not s.are_down) (both (is_alone m && not s.are_down) (has_room m) (both (is_alone m && not s.are_down && has_room m) (not m.has_closed) last).0).0).0

      foresees : Foresees m
      foresees = ahead_if m.needs_snapshot (replica_of m) m.terms m.leases m.has_request m.group m.coming m.affected seen ahead

  ending_keeps : (session : SessionId) (ending : Ending) → Has session → m.ending ≡ Some ending → Free → all_idle m.works ≡ true → Keeps m now (ending_step m now s.are_down session ending)
  ending_keeps session ending has is free idle = keeps_if m now (not (is_leaving ending) || m.is_past || not (sure m.session m.ttl now)) _ _ (λ release. idle)
      (λ stays. keeps_if m now m.needs_snapshot _ _ (λ snapshot. tt) (λ seen. leaving_keeps session ending has is seen free idle))

  live_keeps : (session : SessionId) → Has session → m.ending ≡ None → Free → sure m.session m.ttl now ≡ true → Keeps m now (live_step m now s session)
  live_keeps session has none free live = keeps_if m now m.is_past _ _ (λ past. idle_past free past) (λ within. keeps_if m now (is_outdated m now) _ _ (λ snapshot. tt)
      (λ seen. keeps_if m now s.is_stable _ _ (λ stable. stable_keeps (token_now m) refl free stable (record { live = live; going = none; within = within }))
      (λ unstable. unstable_keeps session has (record { free = free; foresees = ahead_if m.needs_snapshot (replica_of m) m.terms m.leases m.has_request m.group m.coming m.affected (first_not m.needs_snapshot _ seen) ahead; unstable = unstable }) none)))

  of_session_keeps : (session : SessionId) (ending : Option Ending) → Has session → m.ending ≡ ending → Free → (is_none_of m.ending ≡ true → sure m.session m.ttl now ≡ true) → Keeps m now (step_of_session m now s session ending)
  of_session_keeps session (Some ending) has is free live = ending_keeps session ending has is free (idle_ending free (ap is_none_of is))
  of_session_keeps session None has is free live = live_keeps session has is free (live (ap is_none_of is))

  acquiring_keeps : (here : Option Lease) → m.session ≡ SessionState.Absent → all_idle m.works ≡ true → Keeps m now (acquiring_step m now here)
  acquiring_keeps (Some p) absent idle = keeps_if m now (p.session.process == m.process) _ _ (λ own. idle) (λ other. tt)
  acquiring_keeps None absent idle = keeps_if m now (nat_lt 0 (rebalance_left m now)) _ _ (λ wait. tt) (λ free. (record { idle = idle; end = refl }, (absent, refl)))

  absent_keeps : m.session ≡ SessionState.Absent → all_idle m.works ≡ true → Keeps m now (absent_step m now)
  absent_keeps absent idle = keeps_if m now m.is_past _ _ (λ past. idle) (λ within. keeps_if m now m.needs_snapshot _ _ (λ snapshot. tt)
      (λ snapshot_read. acquiring_keeps (lease_of m.terms.node m.leases) absent idle))

  without_session_keeps : (ending : Option Ending) → m.ending ≡ ending → m.session ≡ SessionState.Absent → all_idle m.works ≡ true → Keeps m now (step_without_session m now ending)
  without_session_keeps (Some ending) is absent idle = (idle, absent, is)
  without_session_keeps None is absent idle = absent_keeps absent idle

  session_keeps : (session : SessionState) → m.session ≡ session → Free → Keeps m now (session_step m now s session)
  session_keeps (SessionState.Unknown session) is free = idle_absent free (ap (λ l. sure l m.ttl now) is)
  session_keeps SessionState.Absent is free = without_session_keeps m.ending refl is (idle_absent free (ap (λ l. sure l m.ttl now) is))
  session_keeps (SessionState.Live session since) is free = keeps_if m now (is_due m now) _ _ (λ renew. (since, is)) (λ before. of_session_keeps session m.ending (since, is) refl free (live before))
    where
      early : renewal_left m.session m.ttl now == 0 ≡ false → sure m.session m.ttl now ≡ true
      early before =
          let same : renewal_left m.session m.ttl now ≡ renewal_left (SessionState.Live session since) m.ttl now = ap (λ l. renewal_left l m.ttl now) is in
          ap (λ l. sure l m.ttl now) is ∙ sure_before m.ttl now since (subst (λ left. left == 0 ≡ false) same before)

      by_test : (b c : Bool) → b && (is_none_of m.ending || c) ≡ false → is_none_of m.ending ≡ true → b ≡ false
      by_test true c before none = absurd (either (is_none_of m.ending) c none before)
      by_test false c before none = refl

      live : is_due m now ≡ false → is_none_of m.ending ≡ true → sure m.session m.ttl now ≡ true
      live before none = early (by_test (renewal_left m.session m.ttl now == 0) (sure m.session m.ttl now) before none)

  going_keeps : Free → Keeps m now (going_step m now s)
  going_keeps free = keeps_if m now (nat_lt 0 (pause_left m.paused m.ttl now)) _ _ (λ pause. tt) (λ asks. session_keeps m.session refl free)

  stopping_keeps : (session : SessionState) → m.session ≡ session → Keeps m now (stopping_step m now session)
  stopping_keeps (SessionState.Live session since) is = keeps_if m now (stopping_backoff (any_working m.works) m.session m.ttl now m.paused == 0) _ _ (λ renew. (since, is))
      (λ early. keeps_if m now (not (looks_ahead m now)) _ _ (λ backs_off. tt) (λ looks. keeps_if m now m.needs_snapshot _ _ (λ snapshot. tt) (λ waits. tt)))
  stopping_keeps SessionState.Absent is = tt
  stopping_keeps (SessionState.Unknown session) is = tt

  by_work : MayGoOn m (table_ahead m now s.is_stable) → Keeps m now (step_by_work m now s)
  by_work stays = keeps_if m now (any_stopping m.works) _ _ (λ stopping. stopping_keeps m.session refl) (λ free. going_keeps (record { stays = stays; free = free }))

  unless_awaiting_keeps : (asked : Option Asked) → MayGoOn m (table_ahead m now s.is_stable) → Keeps m now (step_unless_awaiting m now s asked)
  unless_awaiting_keeps (Some asked) stays = tt
  unless_awaiting_keeps None stays = by_work stays

  pub keeps : Keeps m now (due m now s)
  keeps = keeps_if m now (not s.may_go_on) _ _ (λ stop. tt) (λ stays. unless_awaiting_keeps m.asked (tells.stays.0 (search (rules, twice s.may_go_on stays))))

-- One request is under way at a time.

awaits_if : (m : MemberState) (now : ℕ) (is_stable : Bool) (asked : Asked) (b : Bool) (step : Step) → m.asked ≡ Some asked → Awaits now (Some asked) step (noted m now is_stable step).asked
    → let due = if b then Step.Stop else step in Awaits now (Some asked) due (noted m now is_stable due).asked
awaits_if m now is_stable asked true _ is backs_off = (refl, is)
awaits_if m now is_stable asked false _ is backs_off = backs_off

-- if it awaited nothing, then only what it asks for now
awaits_free : (m : MemberState) (now : ℕ) (is_stable : Bool) (step : Step) → m.asked ≡ None → Awaits now None step (noted m now is_stable step).asked
awaits_free m now is_stable (Step.Ask request) is = by_request request
  where
    by_request : (r : Request) → (noted m now is_stable (Step.Ask r)).asked ≡ Some (record { request = r; at = now })
    by_request (Request.Acquire session offset) = refl
    by_request (Request.Renew session) = refl
    by_request (Request.Release session) = refl
    by_request Request.Snapshot = refl
    by_request (Request.Promise session offset) = refl
    by_request (Request.Append offset) = refl
    by_request (Request.RollOver offset) = refl
    by_request Request.Follow = refl
awaits_free m now is_stable (Step.Begin token) is = is
awaits_free m now is_stable Step.Stop is = is
awaits_free m now is_stable (Step.Wait at_most until reason) is = is
awaits_free m now is_stable (Step.BackOff at_most reason) is = is
awaits_free m now is_stable (Step.End ending) is = is

by_asked : (m : MemberState) (now : ℕ) (s : Sight) (is_stable : Bool) (asked : Option Asked) → m.asked ≡ asked
    → let step = if not s.may_go_on then Step.Stop else step_unless_awaiting m now s asked in Awaits now asked step (noted m now is_stable step).asked
by_asked m now s is_stable None is = awaits_free m now is_stable _ is
by_asked m now s is_stable (Some asked) is = awaits_if m now is_stable asked (not s.may_go_on) _ is (refl, is)

pub awaits : (m : MemberState) (now : ℕ) (s : Sight) (is_stable : Bool) → Awaits now m.asked (due m now s) (noted m now is_stable (due m now s)).asked
awaits m now s is_stable = by_asked m now s is_stable m.asked refl

-- ... by whatever that is, and whatever it becomes
pub awaits_noted : (m after : MemberState) (now : ℕ) (step : Step) (s : Sight) (is_stable : Bool) → step ≡ due m now s → after ≡ noted m now is_stable step → Awaits now m.asked step after.asked
awaits_noted m after now step s is_stable is becomes =
    subst (λ (x : MemberState). Awaits now m.asked step x.asked) (sym becomes) (subst (λ (y : Step). Awaits now m.asked y (noted m now is_stable y).asked) (sym is) (awaits m now s is_stable))

-- A member sees one thing.

bools_same : (P : Type 0) (a b : Bool) → (IsTrue a ↔ P) → (IsTrue b ↔ P) → a ≡ b
bools_same P true true one other = refl
bools_same P true false one other = absurd (search (rules, other.1 (one.0 (search (rules)))))
bools_same P false true one other = absurd (search (rules, one.1 (other.0 (search (rules)))))
bools_same P false false one other = refl

abbrev sight_of : (is_stable are_down may_go_on has_all : Bool) → Sight
sight_of is_stable are_down may_go_on has_all = record { is_stable = is_stable; are_down = are_down; may_go_on = may_go_on; has_all = has_all }

pub sights_same : (m : MemberState) (now : ℕ) (a b : Sight) → Sees m now a → Sees m now b → a ≡ b
sights_same m now a b one other =
    let stable = bools_same (SeesStable m) a.is_stable b.is_stable one.stable other.stable in
    let down = bools_same (AllAreDown m) a.are_down b.are_down one.down other.down in
    let all = bools_same (HasAllOf m (last_table m)) a.has_all b.has_all one.all other.all in
    let goes = bools_same (MayGoOn m (table_ahead m now b.is_stable)) a.may_go_on b.may_go_on (subst (λ st. IsTrue a.may_go_on ↔ MayGoOn m (table_ahead m now st)) stable one.stays) other.stays in
    same a.is_stable b.is_stable a.are_down b.are_down a.may_go_on b.may_go_on a.has_all b.has_all stable down goes all
  where
    same : (p q r t u v x y : Bool) → p ≡ q → r ≡ t → u ≡ v → x ≡ y → sight_of p r u x ≡ sight_of q t v y
    same p q r t u v x y pq rt uv xy = cc (pq, rt, uv, xy)
