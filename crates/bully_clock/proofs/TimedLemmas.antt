-- A timed run is a run: its members begin only while they have their leases.
use Rattle.std.proofs.Common.{◌≡◌, ◌≤◌, ◌<◌, ◌+◌, ◌-◌, ◌^◌, ◌==◌, ◌++◌, ◌∷◌, [], ℕ, Bool, true, false, List, Option, Some, None, Contains, cond, min, ◌⊎◌, inl, inr, arith, ap, refl, sym, subst, ◌∙◌, append-nil, append_assoc}
use Rattle.std.proofs.lemmas.Bool.Decides.{nat_tests}
use Rattle.std.proofs.lemmas.List.Elements.{Contains-append_cases, Contains-append_left, Contains-push_cases}
use Rattle.bully_clock.proofs.FreedLemmas.{Freed, IsNoAcquire, IsReport, Stays, acquire_stays, counts_more, new_stays, next_stays, release_freed, told_stays}
use Rattle.bully_clock.proofs.ReleaseLemmas.{EndsIfLive, IsAsked, IsEnding, KnowsAsked}
use Rattle.bully_clock.proofs.StoreLemmas.{IsKept, by_live, kept_done, kept_ended, kept_same, told_live}
use Rattle.bully_clock.proofs.TimeLemmas.{IsSure, is_sure, lease_kept}
use Rattle.bully_clock.specs.Timed.{At, Clocks, EndsNoSooner, Grant, HappensAt, HasTimedRun, IsCounted, IsSteady, IsTrueAnswer, IsTrueCall, MayDoNow, Quits, Renews, ShowsAsked, Timed, TimedBy, TimedRun, WorksInTime, asked_at, first_timed, granted_at, untimed}
use Rattle.bully_member.specs.Asking.{promise_of}
use Rattle.bully_member.specs.Keeping.{Awaits}
use Rattle.bully_member.specs.Member.{MemberState, new_member}
use Rattle.bully_member.specs.Times.{sure_for}
use Rattle.bully_member.specs.declared.opening.Terms.{Terms}
use Rattle.bully_member.specs.declared.values.Asked.{Asked}
use Rattle.bully_member.specs.declared.values.Ending.{Ending}
use Rattle.bully_member.specs.declared.values.Lease.{Lease}
use Rattle.bully_member.specs.declared.values.Request.{Request}
use Rattle.bully_member.specs.declared.values.SessionId.{SessionId}
use Rattle.bully_member.specs.declared.values.SessionState.{SessionState}
use Rattle.bully_member.specs.declared.values.Step.{Step}
use Rattle.bully_member.specs.declared.values.StoreAnswer.{StoreAnswer}
use Rattle.bully_rows.specs.declared.header.Header.{Header}
use Rattle.bully_run.proofs.AnswerLemmas.{Awaited, Counts, Grants}
use Rattle.bully_run.proofs.BusyLemmas.{idle_works}
use Rattle.bully_run.proofs.CallLemmas.{AsksOwn, IsOwnSession}
use Rattle.bully_run.proofs.FrameLemmas.{id_by, ids_apart}
use Rattle.bully_run.proofs.LinkLemmas.{Linked}
use Rattle.bully_run.proofs.RunLemmas.{linked_of, now_lem, process_is}
use Rattle.bully_run.specs.Calls.{Answered, Broken, Call, Followed, GoesNext, Learn, Leave, Lost, Next, NotThere, Passed, SnapshotLost, SnapshotRead, Stopped, StoppedOn, Takes, Woke, session_now}
use Rattle.bully_run.specs.Run.{BeginsWhileSure, Deed, Done, Ends, Expires, Goes, Happening, Happens, HasRun, IsDone, MayDo, MayTell, Process, Run, RunsBy, Sent, SentAcquire, SentAppend, SentPromise, SentRelease, SentRollOver, Starts, Told, WorksNow, first_run, id_of, sent_by, session_by, store_by, store_started, store_told, with_member}
use Rattle.bully_base.specs.Setup.{Setup}
use Rattle.bully_work.specs.Store.{HasWork, IsLive, IsOneToOne, Piece, Store, nothing_in, stops, with_lease}

-- A run goes on by one more.

run_one : (past : List Happening) (h : Happening) (R mid R' : Run) → RunsBy R past mid → Happens mid h R' → RunsBy R (past ++ h ∷ []) R'
run_one [] h R mid R' is happens = (R', subst (λ x. Happens x h R') is happens, refl)
run_one (first ∷ past) h R mid R' (next, goes, runs) happens = (next, goes, run_one past h next mid R' runs happens)

has_one : (past : List Happening) (h : Happening) (R R' : Run) → HasRun past R → Happens R h R' → HasRun (past ++ h ∷ []) R'
has_one past h R R' run happens = record { setup = run.setup; number = run.number; one = run.one; runs = run_one past h (first_run run.setup run.number) R R' run.runs happens }

-- What holds at each moment.

-- process p's session of this number was released: so it has asked for that, and if it is its last one, it is done with it
record IsReleased (R : Run) (p k : ℕ) : Type 0 where
  process : Process
  there : R.processes p ≡ Some process
  low : k ≤ process.member.tries
  done : k ≡ process.member.tries → Freed process.member

abbrev CountsFor : Clocks → TimedRun → (p i : ℕ) → SessionId → ℕ → Type 0
CountsFor C T p i session since = IsCounted C T p i session since

abbrev AsksFrom : Clocks → TimedRun → (p : ℕ) → Request → ℕ → Type 0
AsksFrom C T p request at = at ≡ C.own p (T.asked p)

-- of a member, whatever of its session was released
abbrev IsMember : Clocks → TimedRun → (p : ℕ) → Process → (done : Type 0) → Type 0
IsMember C T p q done = Stays (C.ttl p) (session_by p q.member.tries) (CountsFor C T p q.name) (AsksFrom C T p) done q.member

record IsTimed (C : Clocks) (past : List Happening) (T : TimedRun) : Type 0 where
  run : HasRun past T.run
  asked : (p : ℕ) → T.asked p ≤ T.now
  members : (p : ℕ) (q : Process) → T.run.processes p ≡ Some q → IsMember C T p q ⊥
  grants : (g : Grant) → Contains T.grants g → IsKept C T.now T.gone T.run.store T.run.sent g
  released : (i n p k : ℕ) → Contains T.run.sent (SentRelease i n) → k < 2 ^ 64 → n ≡ id_by p k → IsReleased T.run p k

none_in : {A : Type 0} (x : A) → Contains [] x → ⊥
none_in x (i, low, is) = omega (arith, low)

-- the same with less, or more, said of whether its session was released
any_done : (C : Clocks) (T : TimedRun) (p : ℕ) (q : Process) (done other : Type 0) → (other → Freed q.member) → IsMember C T p q done → IsMember C T p q other
any_done C T p q done other freed is = record { ttl = is.ttl; tries = is.tries; counts = is.counts; asks = is.asks; knows = is.knows; freed = freed }

later_counts : (C : Clocks) (T T' : TimedRun) (p i : ℕ) → ((g : Grant) → Contains T.grants g → Contains T'.grants g) → (session : SessionId) (since : ℕ) → CountsFor C T p i session since → CountsFor C T' p i session since
later_counts C T T' p i more session since is = record { grant = is.grant; moment = is.moment; done = more is.grant is.done; name = is.name; own = is.own; before = is.before; shows = is.shows }

-- a member that nothing happened to
member_later : (C : Clocks) (T T' : TimedRun) (p : ℕ) (q : Process) (done : Type 0) → ((g : Grant) → Contains T.grants g → Contains T'.grants g) → T'.asked p ≡ T.asked p → IsMember C T p q done → IsMember C T' p q done
member_later C T T' p q done more same is = record {
  ttl = is.ttl;
  tries = is.tries;
  counts = counts_more (CountsFor C T p q.name) (CountsFor C T' p q.name) (later_counts C T T' p q.name more) q.member.session is.counts;
  asks = subst (λ m. Awaited (λ request at. at ≡ C.own p m) q.member.asked) (sym same) is.asks;
  knows = is.knows;
  freed = is.freed;
}

-- One process goes on.

differs : (r p : ℕ) → (r == p) ≡ false → r ≡ p → ⊥
differs r p apart same = grind (arith, nat_tests, apart, same)

-- what is new: of its member, of what was sent, and of its session that was released
record IsMoved (C : Clocks) (T T' : TimedRun) (p i : ℕ) (after : MemberState) (more : List Sent) : Type 0 where
  member : IsMember C T' p (record { name = i; member = after }) ⊥
  others : (r : ℕ) → (r ≡ p → ⊥) → T'.asked r ≡ T.asked r
  own : T'.asked p ≤ T'.now
  later : T.now ≤ T'.now
  same : T'.grants ≡ T.grants
  stay : T'.gone ≡ T.gone
  old : (k : ℕ) → IsReleased T.run p k → (k ≤ after.tries) × (k ≡ after.tries → Freed after)
  new : (j n r k : ℕ) → Contains more (SentRelease j n) → k < 2 ^ 64 → n ≡ id_by r k → (r ≡ p) × (k ≤ after.tries) × (k ≡ after.tries → Freed after)

moved : (C : Clocks) (past next : List Happening) (T T' : TimedRun) (p i : ℕ) (after : MemberState) (s : Store) (more : List Sent) → IsTimed C past T → T'.run ≡ with_member T.run p i after s more → HasRun next T'.run → s.live ≡ T.run.store.live
    → IsMoved C T T' p i after more → IsTimed C next T'
moved C past next T T' p i after s more is becomes run live is_moved = record {
  run = run;
  asked = λ r. by_process r (r == p) refl;
  members = λ r q there. member r q (r == p) refl (subst (λ (x : Run). x.processes r ≡ Some q) becomes there);
  grants = λ g has. subst (λ (x : Run). IsKept C T'.now T'.gone x.store x.sent g) (sym becomes)
      (kept_same C T.now T'.now T.gone T'.gone T.run.store s T.run.sent (T.run.sent ++ more) g is_moved.later (λ r over. ap (λ (f : ℕ → Bool). f r) is_moved.stay ∙ over) (λ x had. Contains-append_left T.run.sent more x had) live (is.grants g (subst (λ (x : List Grant). Contains x g) is_moved.same has)));
  released = λ j n r k has low own. subst (λ (x : Run). IsReleased x r k) (sym becomes)
      (by_cases j n r k low own (Contains-append_cases T.run.sent more (SentRelease j n) (subst (λ (x : Run). Contains x.sent (SentRelease j n)) becomes has)));
}
  where
    R' : Run
    R' = with_member T.run p i after s more

    by_process : (r : ℕ) (b : Bool) → (r == p) ≡ b → T'.asked r ≤ T'.now
    by_process r true here = subst (λ x. T'.asked x ≤ T'.now) (let back : p ≡ r = grind (arith, nat_tests, here) in back) is_moved.own
    by_process r false apart = let low = is.asked r in let later = is_moved.later in let same = is_moved.others r (differs r p apart) in omega (arith, low, later, same)

    member : (r : ℕ) (q : Process) (b : Bool) → (r == p) ≡ b → cond b (Some (record { name = i; member = after })) (T.run.processes r) ≡ Some q → IsMember C T' r q ⊥
    member r q true here there =
        let this : record { name = i; member = after } ≡ q = cc there in
        let back : p ≡ r = grind (arith, nat_tests, here) in
        subst (λ x. IsMember C T' x q ⊥) back (subst (λ (x : Process). IsMember C T' p x ⊥) this is_moved.member)
    member r q false apart there = member_later C T T' r q ⊥ (λ g had. subst (λ (x : List Grant). Contains x g) (sym is_moved.same) had) (is_moved.others r (differs r p apart)) (is.members r q there)

    this_one : (r k : ℕ) → r ≡ p → (k ≤ after.tries) × (k ≡ after.tries → Freed after) → IsReleased R' r k
    this_one r k same (low, freed) = record { process = record { name = i; member = after }; there = by_test (r == p) (grind (arith, nat_tests, same)); low = low; done = freed }
      where
        by_test : (b : Bool) → b ≡ true → cond b (Some (record { name = i; member = after })) (T.run.processes r) ≡ Some (record { name = i; member = after })
        by_test true here = refl
        by_test false here = absurd (cc here)

    still_released : (r k : ℕ) (b : Bool) → (r == p) ≡ b → IsReleased T.run r k → IsReleased R' r k
    still_released r k true here was = let same : r ≡ p = grind (arith, nat_tests, here) in this_one r k same (is_moved.old k (subst (λ x. IsReleased T.run x k) same was))
    still_released r k false apart was = record { process = was.process; there = by_test (r == p) apart; low = was.low; done = was.done }
      where
        by_test : (b : Bool) → b ≡ false → cond b (Some (record { name = i; member = after })) (T.run.processes r) ≡ Some was.process
        by_test true here = absurd (cc here)
        by_test false here = was.there

    by_cases : (j n r k : ℕ) → k < 2 ^ 64 → n ≡ id_by r k → Contains T.run.sent (SentRelease j n) ⊎ Contains more (SentRelease j n) → IsReleased R' r k
    by_cases j n r k low own (inl old) = still_released r k (r == p) refl (is.released j n r k old low own)
    by_cases j n r k low own (inr new) = let (same, below, freed) = is_moved.new j n r k new low own in this_one r k same (below, freed)

-- Only the store goes on.
stored : (C : Clocks) (past next : List Happening) (T T' : TimedRun) (s : Store) → IsTimed C past T → T'.run ≡ record T.run { store = s } → HasRun next T'.run → T.now ≤ T'.now → ((p : ℕ) → T'.asked p ≡ T.asked p) → ((g : Grant) → Contains T.grants g → Contains T'.grants g)
    → ((g : Grant) → Contains T'.grants g → IsKept C T'.now T'.gone s T.run.sent g) → IsTimed C next T'
stored C past next T T' s is becomes run later same more kept = record {
  run = run;
  asked = λ p. let low = is.asked p in let at = same p in omega (arith, low, later, at);
  members = λ p q there. member_later C T T' p q ⊥ more (same p) (is.members p q (subst (λ (x : Run). x.processes p ≡ Some q) becomes there));
  grants = λ g has. subst (λ (x : Run). IsKept C T'.now T'.gone x.store x.sent g) (sym becomes) (kept g has);
  released = λ i n p k has low own. let was = is.released i n p k (subst (λ (x : Run). Contains x.sent (SentRelease i n)) becomes has) low own in
      subst (λ (x : Run). IsReleased x p k) (sym becomes) (record { process = was.process; there = was.there; low = was.low; done = was.done });
}

-- What a process has of its session.

module _ (C : Clocks) (past : List Happening) (T : TimedRun) (is : IsTimed C past T) (p : ℕ) (q : Process) (there : T.run.processes p ≡ Some q) where
  linked : Linked T.run.store q.name q.member
  linked = linked_of past T.run p q is.run there

  same : q.member.process ≡ p
  same = process_is past T.run p q is.run there

  few : q.member.tries < 2 ^ 64
  few = let top = linked.holds.tops in omega (arith, top)

  owns : IsOwnSession (session_by p q.member.tries) q.member.session
  owns = subst (λ r. IsOwnSession (session_by r q.member.tries) q.member.session) same linked.holds.own

  asks_own : AsksOwn (session_by p q.member.tries) q.member.asked
  asks_own = subst (λ r. AsksOwn (session_by r q.member.tries) q.member.asked) same linked.holds.asks

  own_session : (session : SessionId) (since : ℕ) → q.member.session ≡ SessionState.Live session since → session ≡ session_by p q.member.tries
  own_session session since live = subst (IsOwnSession (session_by p q.member.tries)) live owns

  counted : (session : SessionId) (since : ℕ) → q.member.session ≡ SessionState.Live session since → IsCounted C T p q.name session since
  counted session since live = subst (Counts (CountsFor C T p q.name)) live (is.members p q there).counts

  -- if its session was released, it is done with that
  freed : (i : ℕ) → Contains T.run.sent (SentRelease i (id_by p q.member.tries)) → Freed q.member
  freed i has = let was = is.released i (id_by p q.member.tries) p q.member.tries has few refl in
      let found : Some was.process ≡ Some q = sym was.there ∙ there in
      let this : was.process ≡ q = cc found in
      subst (λ (x : Process). q.member.tries ≡ x.member.tries → Freed x.member) this was.done refl

  -- so if its lease is sure, and it doesn't end, the store keeps it
  lasts : (t : ℕ) → IsSteady C p 0 → T.now ≤ t → T.gone p ≡ false → q.member.ending ≡ None → BeginsWhileSure T.run.store q.name q.member (C.own p t)
  lasts t steady later alive none is_so = subst (λ r. IsLive T.run.store q.name (id_of (session_by r q.member.tries))) (sym same)
      (lease_kept C T p q.name q.member.tries 0 t found.since steady later few is.grants alive held
      (subst (λ (x : SessionId). IsCounted C T p q.name x found.since) (own_session found.session found.since found.live) (counted found.session found.since found.live))
      within)
    where
      found : IsSure q.member.session q.member.ttl (C.own p t)
      found = is_sure q.member.session q.member.ttl (C.own p t) is_so

      within : C.own p t - found.since < sure_for (C.ttl p) + 0
      within = let less = subst (λ x. C.own p t - found.since < sure_for x) (is.members p q there).ttl found.within in omega (arith, less)

      held : Contains T.run.sent (SentRelease q.name (id_by p q.member.tries)) → ⊥
      held has = not_freed q.member.session q.member.ending found.session found.since found.live none (freed q.name has).ends
        where
          not_freed : (state : SessionState) (ending : Option Ending) (session : SessionId) (since : ℕ) → state ≡ SessionState.Live session since → ending ≡ None → EndsIfLive state ending → ⊥
          not_freed state ending session since live none ends = subst IsEnding none (subst (λ (x : SessionState). EndsIfLive x ending) live ends)

-- Each happening.

-- what it is then
abbrev next_timed : TimedRun → (t : ℕ) → Happening → Run → TimedRun
next_timed T t h R' = record { run = R'; now = t; asked = asked_at T.asked t h; gone = T.gone; grants = granted_at T.grants t h }

-- what is sent to release a session
record IsRelease (what : Step) (n : ℕ) : Type 0 where
  session : SessionId
  asks : what ≡ Step.Ask (Request.Release session)
  own : n ≡ id_of session

one_has : (x y : Sent) → Contains (x ∷ []) y → x ≡ y
one_has x y has = by_cases (Contains-push_cases [] x y has)
  where
    by_cases : Contains [] y ⊎ (x ≡ y) → x ≡ y
    by_cases (inl old) = absurd (none_in y old)
    by_cases (inr is) = is

-- what was sent is a release, and of which session
abbrev IsSentRelease : Sent → Type 0
IsSentRelease (SentRelease i n) = Unit {0}
IsSentRelease other = ⊥

abbrev released_id : Sent → ℕ
released_id (SentRelease i n) = n
released_id other = 0

is_sent : (x : Sent) (j n : ℕ) → Contains (x ∷ []) (SentRelease j n) → IsSentRelease x
is_sent x j n has = subst IsSentRelease (sym (one_has x (SentRelease j n) has)) tt

sent_release : (i : ℕ) (m : MemberState) (what : Step) (deed : Deed) (j n : ℕ) → Contains (sent_by i m what deed) (SentRelease j n) → IsRelease what n
sent_release i m (Step.Ask (Request.Acquire session offset)) deed j n has = absurd (is_sent (SentAcquire i (id_of session) m.terms.epoch offset) j n has)
sent_release i m (Step.Ask (Request.Renew session)) deed j n has = absurd (none_in (SentRelease j n) has)
sent_release i m (Step.Ask (Request.Release session)) deed j n has = record { session = session; asks = refl; own = sym (ap released_id (one_has (SentRelease i (id_of session)) (SentRelease j n) has)) }
sent_release i m (Step.Ask Request.Snapshot) deed j n has = absurd (none_in (SentRelease j n) has)
sent_release i m (Step.Ask (Request.Promise session offset)) deed j n has = absurd (is_sent (SentPromise i (id_of session) (promise_of m offset)) j n has)
sent_release i m (Step.Ask (Request.Append offset)) deed j n has = absurd (is_sent (SentAppend m offset deed.silent deed.seen deed.events) j n has)
sent_release i m (Step.Ask (Request.RollOver offset)) deed j n has = absurd (is_sent (SentRollOver m offset deed.silent deed.setup deed.number) j n has)
sent_release i m (Step.Ask Request.Follow) deed j n has = absurd (none_in (SentRelease j n) has)
sent_release i m (Step.Begin token) deed j n has = absurd (none_in (SentRelease j n) has)
sent_release i m Step.Stop deed j n has = absurd (none_in (SentRelease j n) has)
sent_release i m (Step.Wait at_most until reason) deed j n has = absurd (none_in (SentRelease j n) has)
sent_release i m (Step.BackOff at_most reason) deed j n has = absurd (none_in (SentRelease j n) has)
sent_release i m (Step.End ending) deed j n has = absurd (none_in (SentRelease j n) has)

-- it asks for something only if it awaits nothing
awaits_none : (now : ℕ) (asked : Option Asked) (request : Request) (after : Option Asked) → Awaits now asked (Step.Ask request) after → asked ≡ None
awaits_none now None request after is = refl
awaits_none now (Some asked) request after is = absurd (cc is.0)

-- what a step makes of a member
record IsNext (C : Clocks) (T' : TimedRun) (p : ℕ) (q : Process) (after : MemberState) : Type 0 where
  member : IsMember C T' p (record { name = q.name; member = after }) ⊥
  more : q.member.tries ≤ after.tries
  freed : (k : ℕ) → k ≤ q.member.tries → (k ≡ q.member.tries → Freed q.member) → k ≡ after.tries → Freed after

module _ (C : Clocks) (past : List Happening) (T : TimedRun) (is : IsTimed C past T) (p : ℕ) (q : Process) (there : T.run.processes p ≡ Some q) (t now : ℕ) (deed : Deed) (R' : Run) (shows : now ≡ C.own p t) (alive : T.gone p ≡ false) where
  abbrev then_by : Step → TimedRun
  then_by what = next_timed T t (Goes p now what deed) R'

  asked_own : (b : Bool) → b ≡ true → cond b t (T.asked p) ≡ t
  asked_own true here = refl
  asked_own false here = absurd (cc here)

  -- it asks at that moment
  asks_now : (request : Request) (what : Step) → what ≡ Step.Ask request → (then_by what).asked p ≡ t
  asks_now request what same = subst (λ (x : Step). (then_by x).asked p ≡ t) (sym same) (asked_own (p == p) (grind (arith, nat_tests)))

  asks_then : (request : Request) (what : Step) → what ≡ Step.Ask request → AsksFrom C (then_by what) p request now
  asks_then request what same = shows ∙ ap (C.own p) (sym (asks_now request what same))

  -- what was said of it
  start : (what : Step) (done : Type 0) → (done → Freed q.member) → Awaited (AsksFrom C (then_by what) p) q.member.asked → T.grants ≡ (then_by what).grants → Stays (C.ttl p) (session_by p q.member.tries) (CountsFor C (then_by what) p q.name) (AsksFrom C (then_by what) p) done q.member
  start what done was asks grants = let here : IsMember C T p q ⊥ = is.members p q there in record {
    ttl = here.ttl;
    tries = refl;
    counts = counts_more (CountsFor C T p q.name) (CountsFor C (then_by what) p q.name) (later_counts C T (then_by what) p q.name (λ g has. subst (λ (x : List Grant). Contains x g) grants has)) q.member.session here.counts;
    asks = asks;
    knows = here.knows;
    freed = was;
  }

  none_awaited : (what : Step) → q.member.asked ≡ None → Awaited (AsksFrom C (then_by what) p) q.member.asked
  none_awaited what none = subst (Awaited (AsksFrom C (then_by what) p)) (sym none) tt

  finish : (what : Step) (after : MemberState) → IsNoAcquire what → Awaited (AsksFrom C (then_by what) p) q.member.asked → T.grants ≡ (then_by what).grants → GoesNext q.member now what after → IsNext C (then_by what) p q after
  finish what after other asks grants goes = record {
    member = record { ttl = fin.ttl; tries = refl; counts = fin.counts; asks = fin.asks; knows = subst (λ k. KnowsAsked (session_by p k) after) (sym fin.tries) fin.knows; freed = λ no. absurd no };
    more = let tries = fin.tries in omega (arith, tries);
    freed = λ k low was same.
        (next_stays (C.ttl p) (session_by p q.member.tries) (CountsFor C (then_by what) p q.name) (AsksFrom C (then_by what) p) (Unit {0}) q.member now what after
        (start what (Unit {0}) (λ so. was (same ∙ fin.tries)) asks grants) other (λ request same. asks_then request what same) goes).freed tt;
  }
    where
      fin : Stays (C.ttl p) (session_by p q.member.tries) (CountsFor C (then_by what) p q.name) (AsksFrom C (then_by what) p) ⊥ after
      fin = next_stays (C.ttl p) (session_by p q.member.tries) (CountsFor C (then_by what) p q.name) (AsksFrom C (then_by what) p) ⊥ q.member now what after
          (start what ⊥ (λ no. absurd no) asks grants) other (λ request same. asks_then request what same) goes

  asks_next : (request : Request) (after : MemberState) → IsNoAcquire (Step.Ask request) → GoesNext q.member now (Step.Ask request) after → IsNext C (then_by (Step.Ask request)) p q after
  asks_next request after other goes = finish (Step.Ask request) after other (none_awaited (Step.Ask request) (awaits_none now q.member.asked request after.asked goes.awaits)) refl goes

  next_is : (what : Step) (after : MemberState) → GoesNext q.member now what after → MayDoNow T.run.store q.name q.member after now what deed → IsNext C (then_by what) p q after
  next_is (Step.Ask (Request.Acquire session offset)) after goes may = record {
    member = record { ttl = fin.ttl; tries = refl; counts = fin.counts; asks = fin.asks; knows = subst (λ x. KnowsAsked x after) next_session fin.knows; freed = λ no. absurd no };
    more = let tries = fin.tries in omega (arith, tries, number, may);
    freed = λ k low was same. let tries = fin.tries in absurd (omega (arith, low, same, tries, number, may));
  }
    where
      what : Step
      what = Step.Ask (Request.Acquire session offset)

      number : session.number ≡ min (q.member.tries + 1) (2 ^ 64 - 1)
      number = ap (λ (x : SessionId). x.number) goes.keeps.1.1

      process : session.process ≡ p
      process = ap (λ (x : SessionId). x.process) goes.keeps.1.1 ∙ same C past T is p q there

      fin : Stays (C.ttl p) session (CountsFor C (then_by what) p q.name) (AsksFrom C (then_by what) p) ⊥ after
      fin = acquire_stays (C.ttl p) (session_by p q.member.tries) (CountsFor C (then_by what) p q.name) (AsksFrom C (then_by what) p) ⊥ ⊥ q.member now session offset after
          (start what ⊥ (λ no. absurd no) (none_awaited what (awaits_none now q.member.asked (Request.Acquire session offset) after.asked goes.awaits)) refl) process (omega (arith, number, may))
          (asks_then (Request.Acquire session offset) what refl) (λ no. no) goes

      next_session : session ≡ session_by p after.tries
      next_session = let tries : after.tries ≡ session.number = fin.tries in grind (arith, process, tries)
  next_is (Step.Ask (Request.Renew session)) after goes may = asks_next (Request.Renew session) after tt goes
  next_is (Step.Ask (Request.Release session)) after goes may = asks_next (Request.Release session) after tt goes
  next_is (Step.Ask Request.Snapshot) after goes may = asks_next Request.Snapshot after tt goes
  next_is (Step.Ask (Request.Promise session offset)) after goes may = asks_next (Request.Promise session offset) after tt goes
  next_is (Step.Ask (Request.Append offset)) after goes may = asks_next (Request.Append offset) after tt goes
  next_is (Step.Ask (Request.RollOver offset)) after goes may = asks_next (Request.RollOver offset) after tt goes
  next_is (Step.Ask Request.Follow) after goes may = asks_next Request.Follow after tt goes
  next_is (Step.Begin token) after goes may = finish (Step.Begin token) after tt (is.members p q there).asks refl goes
  next_is Step.Stop after goes may = finish Step.Stop after tt (is.members p q there).asks refl goes
  next_is (Step.Wait at_most until reason) after goes may = finish (Step.Wait at_most until reason) after tt (is.members p q there).asks refl goes
  next_is (Step.BackOff at_most reason) after goes may = finish (Step.BackOff at_most reason) after tt (is.members p q there).asks refl goes
  next_is (Step.End ending) after goes may = finish (Step.End ending) after tt (is.members p q there).asks refl goes

  -- it may do that in a run
  may_do : (what : Step) (after : MemberState) → IsSteady C p 0 → T.now ≤ t → GoesNext q.member now what after → MayDoNow T.run.store q.name q.member after now what deed → MayDo T.run.store q.name q.member after now what deed
  may_do (Step.Ask (Request.Acquire session offset)) after steady later goes may = may
  may_do (Step.Ask (Request.Renew session)) after steady later goes may = may
  may_do (Step.Ask (Request.Release session)) after steady later goes may = may
  may_do (Step.Ask Request.Snapshot) after steady later goes may = may
  may_do (Step.Ask (Request.Promise session offset)) after steady later goes may = may
  may_do (Step.Ask (Request.Append offset)) after steady later goes may = may
  may_do (Step.Ask (Request.RollOver offset)) after steady later goes may = may
  may_do (Step.Ask Request.Follow) after steady later goes may = may
  may_do (Step.Begin token) after steady later goes may =
      (subst (BeginsWhileSure T.run.store q.name q.member) (sym shows) (lasts C past T is p q there t steady later alive goes.keeps.may.going), may)
  may_do Step.Stop after steady later goes may = may
  may_do (Step.Wait at_most until reason) after steady later goes may = may
  may_do (Step.BackOff at_most reason) after steady later goes may = may
  may_do (Step.End ending) after steady later goes may = may

  asked_others : (what : Step) (r : ℕ) → (r ≡ p → ⊥) → (then_by what).asked r ≡ T.asked r
  asked_others (Step.Ask request) r apart = by_test (r == p) refl
    where
      by_test : (b : Bool) → (r == p) ≡ b → cond b t (T.asked r) ≡ T.asked r
      by_test true here = absurd (apart (grind (arith, nat_tests, here)))
      by_test false here = refl
  asked_others (Step.Begin token) r apart = refl
  asked_others Step.Stop r apart = refl
  asked_others (Step.Wait at_most until reason) r apart = refl
  asked_others (Step.BackOff at_most reason) r apart = refl
  asked_others (Step.End ending) r apart = refl

  asked_low : (what : Step) → T.now ≤ t → (then_by what).asked p ≤ t
  asked_low (Step.Ask request) later = let same = asks_now request (Step.Ask request) refl in omega (arith, same)
  asked_low (Step.Begin token) later = let low = is.asked p in omega (arith, low, later)
  asked_low Step.Stop later = let low = is.asked p in omega (arith, low, later)
  asked_low (Step.Wait at_most until reason) later = let low = is.asked p in omega (arith, low, later)
  asked_low (Step.BackOff at_most reason) later = let low = is.asked p in omega (arith, low, later)
  asked_low (Step.End ending) later = let low = is.asked p in omega (arith, low, later)

  granted_same : (what : Step) → (then_by what).grants ≡ T.grants
  granted_same what = refl

  -- what it asks to release
  released_by : (what : Step) (after : MemberState) (r k n : ℕ) → GoesNext q.member now what after → IsNext C (then_by what) p q after → k < 2 ^ 64 → n ≡ id_by r k → IsRelease what n → (r ≡ p) × (k ≤ after.tries) × (k ≡ after.tries → Freed after)
  released_by what after r k n goes next low own release = (sym apart.0 ∙ asked.0, (let number = asked.1 in let more = next.more in let this = apart.1 in omega (arith, number, more, this)), λ last. freed_asked.0)
    where
      freed_asked : Freed after × IsAsked (session_by p q.member.tries) release.session
      freed_asked = release_freed (session_by p q.member.tries) q.member now release.session after (same C past T is p q there) (is.members p q there).knows (owns C past T is p q there) (subst (λ (x : Step). GoesNext q.member now x after) release.asks goes)

      asked : IsAsked (session_by p q.member.tries) release.session
      asked = freed_asked.1

      apart : (release.session.process ≡ r) × (release.session.number ≡ k)
      apart = ids_apart release.session.process r release.session.number k (let number = asked.1 in let top = few C past T is p q there in omega (arith, number, top)) low (sym release.own ∙ own)

  goes_timed : (what : Step) (after : MemberState) → IsSteady C p 0 → T.now ≤ t → GoesNext q.member now what after → MayDoNow T.run.store q.name q.member after now what deed
      → R' ≡ with_member T.run p q.name after (store_by T.run.store q.name q.member what deed) (sent_by q.name q.member what deed) → IsTimed C (past ++ Goes p now what deed ∷ []) (then_by what)
  goes_timed what after steady later goes may becomes = moved C past (past ++ Goes p now what deed ∷ []) T (then_by what) p q.name after (store_by T.run.store q.name q.member what deed) (sent_by q.name q.member what deed) is becomes
      (has_one past (Goes p now what deed) T.run R' is.run (q, after, there, goes, may_do what after steady later goes may, becomes))
      (by_live T.run.store q.name q.member what deed) (record {
        member = next.member;
        others = asked_others what;
        own = asked_low what later;
        later = later;
        same = granted_same what;
        stay = refl;
        old = λ k was.
            let found : Some was.process ≡ Some q = sym was.there ∙ there in
            let this : was.process ≡ q = cc found in
            let low : k ≤ q.member.tries = subst (λ (x : Process). k ≤ x.member.tries) this was.low in
            let done : k ≡ q.member.tries → Freed q.member = subst (λ (x : Process). k ≡ x.member.tries → Freed x.member) this was.done in
            ((let more = next.more in omega (arith, low, more)), next.freed k low done);
        new = λ j n r k has low own. released_by what after r k n goes next low own (sent_release q.name q.member what deed j n has);
      })
    where
      next : IsNext C (then_by what) p q after
      next = next_is what after goes may

-- What a member is told.

is_report : (s : Store) (i : ℕ) (m : MemberState) (call : Call) (after : MemberState) → MayTell s i m call after → IsReport call
is_report s i m (Next now next) after may = may
is_report s i m (Answered now answer) after may = tt
is_report s i m (Learn records taken) after may = tt
is_report s i m (SnapshotRead now epoch leases has_unknown has_request) after may = tt
is_report s i m (SnapshotLost now leases) after may = tt
is_report s i m (Followed now header terms) after may = tt
is_report s i m NotThere after may = tt
is_report s i m Passed after may = tt
is_report s i m Woke after may = tt
is_report s i m Leave after may = tt
is_report s i m Broken after may = tt
is_report s i m (Lost token) after may = tt
is_report s i m Stopped after may = tt
is_report s i m (StoppedOn k) after may = tt

told_timed : (C : Clocks) (past : List Happening) (T : TimedRun) (t p : ℕ) (call : Call) (R' : Run) (q : Process) (after : MemberState) → IsTimed C past T → T.now ≤ t → T.run.processes p ≡ Some q → Takes q.member call after → MayTell T.run.store q.name q.member call after
    → R' ≡ with_member T.run p q.name after (store_told T.run.store q.name q.member call) [] → IsTrueCall T p call → IsTimed C (past ++ Told p call ∷ []) (next_timed T t (Told p call) R')
told_timed C past T t p call R' q after is later there takes may becomes true_call = moved C past (past ++ Told p call ∷ []) T T' p q.name after (store_told T.run.store q.name q.member call) [] is becomes
    (has_one past (Told p call) T.run R' is.run (q, after, there, takes, may, becomes)) (told_live T.run.store q.name q.member call) (record {
      member = let fin = stays ⊥ (λ no. absurd no) in record { ttl = fin.ttl; tries = refl; counts = fin.counts; asks = fin.asks; knows = subst (λ k. KnowsAsked (session_by p k) after) (sym fin.tries) fin.knows; freed = λ no. absurd no };
      others = λ r apart. refl;
      own = let low = is.asked p in omega (arith, low, later);
      later = later;
      same = refl;
      stay = refl;
      old = λ k was.
          let found : Some was.process ≡ Some q = sym was.there ∙ there in
          let this : was.process ≡ q = cc found in
          let low : k ≤ q.member.tries = subst (λ (x : Process). k ≤ x.member.tries) this was.low in
          let done : k ≡ q.member.tries → Freed q.member = subst (λ (x : Process). k ≡ x.member.tries → Freed x.member) this was.done in
          let tries = (stays ⊥ (λ no. absurd no)).tries in
          (omega (arith, low, tries), λ last. (stays (Unit {0}) (λ so. done (last ∙ tries))).freed tt);
      new = λ j n r k has low own. absurd (none_in (SentRelease j n) has);
    })
  where
    T' : TimedRun
    T' = next_timed T t (Told p call) R'

    here : IsMember C T' p q ⊥
    here = member_later C T T' p q ⊥ (λ g has. has) refl (is.members p q there)

    truth : (now : ℕ) (answer : StoreAnswer) → call ≡ Answered now answer → IsTrueAnswer T p q answer
    truth now answer same = subst (IsTrueCall T p) same true_call q there

    granted : (answer : StoreAnswer) (asked : Option Asked) → q.member.asked ≡ asked → IsTrueAnswer T p q answer → Awaited (AsksFrom C T p) asked → Awaited (Grants (CountsFor C T' p q.name) answer) asked
    granted answer None none so asks = tt
    granted answer (Some asked) some so asks = λ session done for_it.
        let (g, has, name, own, low) = subst (IsTrueAnswer T p q) done so asked session some for_it in
        record { grant = g; moment = T.asked p; done = has; name = name; own = own; before = low; shows = asks }

    shows : (now epoch : ℕ) (leases : List Lease) (has_unknown has_request : Bool) → call ≡ SnapshotRead now epoch leases has_unknown has_request → ShowsAsked (session_by p q.member.tries) leases
    shows now epoch leases has_unknown has_request call_is = subst (λ r. ShowsAsked (session_by r q.member.tries) leases) (same C past T is p q there) (subst (IsTrueCall T p) call_is true_call q there)

    stays : (done : Type 0) → (done → Freed q.member) → Stays (C.ttl p) (session_by p q.member.tries) (CountsFor C T' p q.name) (AsksFrom C T' p) done after
    stays done was = told_stays (C.ttl p) (session_by p q.member.tries) (CountsFor C T' p q.name) (AsksFrom C T' p) done q.member call after
        (record { ttl = here.ttl; tries = refl; counts = here.counts; asks = here.asks; knows = here.knows; freed = was }) (asks_own C past T is p q there) (is_report T.run.store q.name q.member call after may)
        (λ now answer same. granted answer q.member.asked refl (truth now answer same) (is.members p q there).asks) shows takes

-- A process starts; work ends.

starts_timed : (C : Clocks) (past : List Happening) (T : TimedRun) (t p i : ℕ) (header : Header) (terms : Terms) (ttl : ℕ) (R' : Run) → IsTimed C past T → T.now ≤ t → Happens T.run (Starts p i header terms ttl) R' → ttl ≡ C.ttl p
    → IsTimed C (past ++ Starts p i header terms ttl ∷ []) (next_timed T t (Starts p i header terms ttl) R')
starts_timed C past T t p i header terms ttl R' is later (unborn, of, becomes) same = moved C past (past ++ Starts p i header terms ttl ∷ []) T T' p i (new_member header terms p ttl) (store_started T.run.store i p terms) [] is becomes
    (has_one past (Starts p i header terms ttl) T.run R' is.run (unborn, of, becomes)) refl (record {
      member = let new = new_stays header terms p ttl (session_by p 0) (CountsFor C T' p i) (AsksFrom C T' p) ⊥ (λ no. no) refl in record { ttl = same; tries = refl; counts = new.counts; asks = new.asks; knows = new.knows; freed = λ no. absurd no };
      others = λ r apart. refl;
      own = let low = is.asked p in omega (arith, low, later);
      later = later;
      same = refl;
      stay = refl;
      old = λ k was. let found : None ≡ Some was.process = sym unborn ∙ was.there in absurd (cc found);
      new = λ j n r k has low own. absurd (none_in (SentRelease j n) has);
    })
  where
    T' : TimedRun
    T' = next_timed T t (Starts p i header terms ttl) R'

ends_timed : (C : Clocks) (past : List Happening) (T : TimedRun) (t p number : ℕ) (left : List Piece) (R' : Run) → IsTimed C past T → T.now ≤ t → Happens T.run (Ends p number left) R' → IsTimed C (past ++ Ends p number left ∷ []) (next_timed T t (Ends p number left) R')
ends_timed C past T t p number left R' is later (q, there, low, may, becomes) = moved C past (past ++ Ends p number left ∷ []) T T' p q.name q.member (stops T.run.store q.name (id_of (session_by p number)) left) [] is becomes
    (has_one past (Ends p number left) T.run R' is.run (q, there, low, may, becomes)) refl (record {
      member = member_later C T T' p q ⊥ (λ g has. has) refl (is.members p q there);
      others = λ r apart. refl;
      own = let asked = is.asked p in omega (arith, asked, later);
      later = later;
      same = refl;
      stay = refl;
      old = λ k was. let found : Some was.process ≡ Some q = sym was.there ∙ there in let this : was.process ≡ q = cc found in
          (subst (λ (x : Process). k ≤ x.member.tries) this was.low, subst (λ (x : Process). k ≡ x.member.tries → Freed x.member) this was.done);
      new = λ j n r k has low own. absurd (none_in (SentRelease j n) has);
    })
  where
    T' : TimedRun
    T' = next_timed T t (Ends p number left) R'

-- The store does something.

-- one more grant, of a lease that is held
granted_kept : (C : Clocks) (t i n : ℕ) (gone : ℕ → Bool) (s : Store) (sent : List Sent) (grants : List Grant) → IsLive s i n → ((g : Grant) → Contains grants g → IsKept C t gone s sent g) → (g : Grant) → Contains (grants ++ record { name = i; session = n; at = t } ∷ []) g → IsKept C t gone s sent g
granted_kept C t i n gone s sent grants live old g has = by_cases (Contains-push_cases grants (record { name = i; session = n; at = t }) g has)
  where
    by_cases : Contains grants g ⊎ (record { name = i; session = n; at = t } ≡ g) → IsKept C t gone s sent g
    by_cases (inl before) = old g before
    by_cases (inr this) = subst (IsKept C t gone s sent) this (record { past = omega arith; left = inl live })

granted_all : (C : Clocks) (t : ℕ) (T : TimedRun) (x : Sent) (s : Store) → IsDone T.run.store x s → ((g : Grant) → Contains T.grants g → IsKept C t T.gone s T.run.sent g) → (g : Grant) → Contains (granted_at T.grants t (Done x)) g → IsKept C t T.gone s T.run.sent g
granted_all C t T (SentAcquire i n e offset) s (accepts, becomes) old = granted_kept C t i n T.gone s T.run.sent T.grants
    (subst (λ x. IsLive x i n) (sym becomes) (nothing_in e offset, by_test (i == i) (grind (arith, nat_tests)))) old
  where
    by_test : (b : Bool) → b ≡ true → cond b (Some (record { session = n; promised = nothing_in e offset })) (T.run.store.live i) ≡ Some (record { session = n; promised = nothing_in e offset })
    by_test true here = refl
    by_test false here = absurd (cc here)
granted_all C t T (SentRelease i n) s done old = old
granted_all C t T (SentPromise i n promised) s done old = old
granted_all C t T (SentAppend m offset silent seen events) s done old = old
granted_all C t T (SentRollOver m offset silent setup number) s done old = old

granted_more : (t : ℕ) (grants : List Grant) (x : Sent) (g : Grant) → Contains grants g → Contains (granted_at grants t (Done x)) g
granted_more t grants (SentAcquire i n e offset) g has = Contains-append_left grants (record { name = i; session = n; at = t } ∷ []) g has
granted_more t grants (SentRelease i n) g has = has
granted_more t grants (SentPromise i n promised) g has = has
granted_more t grants (SentAppend m offset silent seen events) g has = has
granted_more t grants (SentRollOver m offset silent setup number) g has = has

happened_more : (t : ℕ) (grants : List Grant) (h : Happening) (g : Grant) → Contains grants g → Contains (granted_at grants t h) g
happened_more t grants (Starts p i header terms ttl) g has = has
happened_more t grants (Goes p now what deed) g has = has
happened_more t grants (Told p call) g has = has
happened_more t grants (Ends p number left) g has = has
happened_more t grants (Done x) g has = granted_more t grants x g has
happened_more t grants (Expires i) g has = has

done_timed : (C : Clocks) (past : List Happening) (T : TimedRun) (t : ℕ) (x : Sent) (R' : Run) → IsTimed C past T → T.now ≤ t → Happens T.run (Done x) R' → IsTimed C (past ++ Done x ∷ []) (next_timed T t (Done x) R')
done_timed C past T t x R' is later (has, s, done, becomes) = stored C past (past ++ Done x ∷ []) T (next_timed T t (Done x) R') s is becomes (has_one past (Done x) T.run R' is.run (has, s, done, becomes)) later (λ p. refl)
    (granted_more t T.grants x) (granted_all C t T x s done (λ g there. kept_done C T.now t T.gone T.run.store x s T.run.sent g later has done (is.grants g there)))

expires_timed : (C : Clocks) (past : List Happening) (T : TimedRun) (t i : ℕ) (R' : Run) → IsTimed C past T → T.now ≤ t → Happens T.run (Expires i) R' → EndsNoSooner C T i t → IsTimed C (past ++ Expires i ∷ []) (next_timed T t (Expires i) R')
expires_timed C past T t i R' is later becomes ends = stored C past (past ++ Expires i ∷ []) T (next_timed T t (Expires i) R') (with_lease T.run.store i None) is becomes (has_one past (Expires i) T.run R' is.run becomes) later (λ p. refl) (λ g has. has)
    (λ g has. kept_ended C T t i g later has ends (is.grants g has))

renews_timed : (C : Clocks) (past : List Happening) (T : TimedRun) (t i n : ℕ) → IsTimed C past T → T.now ≤ t → IsLive T.run.store i n → IsTimed C past (record T { now = t; grants = T.grants ++ record { name = i; session = n; at = t } ∷ [] })
renews_timed C past T t i n is later live = stored C past past T (record T { now = t; grants = T.grants ++ record { name = i; session = n; at = t } ∷ [] }) T.run.store is refl is.run later (λ p. refl) (λ g has. Contains-append_left T.grants _ g has)
    (granted_kept C t i n T.gone T.run.store T.run.sent T.grants live (λ g has. kept_same C T.now t T.gone T.gone T.run.store T.run.store T.run.sent T.run.sent g later (λ p over. over) (λ x had. had) refl (is.grants g has)))

quits_timed : (C : Clocks) (past : List Happening) (T : TimedRun) (t p : ℕ) → IsTimed C past T → T.now ≤ t → IsTimed C past (record T { now = t; gone = λ r. cond (r == p) true (T.gone r) })
quits_timed C past T t p is later = stored C past past T (record T { now = t; gone = λ r. cond (r == p) true (T.gone r) }) T.run.store is refl is.run later (λ r. refl) (λ g has. has)
    (λ g has. kept_same C T.now t T.gone (λ r. cond (r == p) true (T.gone r)) T.run.store T.run.store T.run.sent T.run.sent g later (λ r over. by_test (r == p) (T.gone r) over) (λ x had. had) refl (is.grants g has))
  where
    by_test : (a b : Bool) → b ≡ true → cond a true b ≡ true
    by_test true b over = refl
    by_test false b over = over

-- Whole timed runs.

happens_timed : (C : Clocks) (past : List Happening) (T : TimedRun) (t : ℕ) (h : Happening) (R' : Run) → ((p : ℕ) → IsSteady C p 0) → IsTimed C past T → T.now ≤ t → HappensAt C T t h R' → IsTimed C (past ++ h ∷ []) (next_timed T t h R')
happens_timed C past T t (Starts p i header terms ttl) R' steady is later (happens, same) = starts_timed C past T t p i header terms ttl R' is later happens same
happens_timed C past T t (Goes p now what deed) R' steady is later ((q, after, there, goes, may, becomes), shows, alive) = goes_timed C past T is p q there t now deed R' shows alive what after (steady p) later goes may becomes
happens_timed C past T t (Told p call) R' steady is later ((q, after, there, takes, may, becomes), true_call) = told_timed C past T t p call R' q after is later there takes may becomes true_call
happens_timed C past T t (Ends p number left) R' steady is later happens = ends_timed C past T t p number left R' is later happens
happens_timed C past T t (Done x) R' steady is later happens = done_timed C past T t x R' is later happens
happens_timed C past T t (Expires i) R' steady is later (happens, ends) = expires_timed C past T t i R' is later happens ends

timed_on : (C : Clocks) (timed : List Timed) (past : List Happening) (T T' : TimedRun) → ((p : ℕ) → IsSteady C p 0) → IsTimed C past T → TimedBy C T timed T' → IsTimed C (past ++ untimed timed) T'
timed_on C [] past T T' steady is same = subst (IsTimed C (past ++ [])) (sym same) (subst (λ (x : List Happening). IsTimed C x T) (sym (append-nil past)) is)
timed_on C (At t h ∷ timed) past T T' steady is (mid, (later, R', happens, becomes), rest) =
    subst (λ (x : List Happening). IsTimed C x T') (append_assoc past (h ∷ []) (untimed timed))
    (timed_on C timed (past ++ h ∷ []) mid T' steady (subst (IsTimed C (past ++ h ∷ [])) (sym becomes) (happens_timed C past T t h R' steady is later happens)) rest)
timed_on C (Renews t i n ∷ timed) past T T' steady is (mid, (later, live, becomes), rest) =
    timed_on C timed past mid T' steady (subst (IsTimed C past) (sym becomes) (renews_timed C past T t i n is later live)) rest
timed_on C (Quits t p ∷ timed) past T T' steady is (mid, (later, idle, becomes), rest) =
    timed_on C timed past mid T' steady (subst (IsTimed C past) (sym becomes) (quits_timed C past T t p is later)) rest

first_is_timed : (C : Clocks) (setup : Setup) (number : ℕ → ℕ) → IsOneToOne number → IsTimed C [] (first_timed setup number)
first_is_timed C setup number one = record {
  run = record { setup = setup; number = number; one = one; runs = refl };
  asked = λ p. omega arith;
  members = λ p q there. absurd (cc there);
  grants = λ g has. absurd (none_in g has);
  released = λ i n p k has low own. absurd (none_in (SentRelease i n) has);
}

is_timed : (C : Clocks) (timed : List Timed) (T : TimedRun) → HasTimedRun C timed T → IsTimed C (untimed timed) T
is_timed C timed T has = timed_on C timed [] (first_timed has.setup has.number) T has.steady (first_is_timed C has.setup has.number has.one) has.by

-- What was granted stays so.
grants_stay : (C : Clocks) (timed : List Timed) (T T' : TimedRun) → TimedBy C T timed T' → (g : Grant) → Contains T.grants g → Contains T'.grants g
grants_stay C [] T T' same g has = subst (λ (x : TimedRun). Contains x.grants g) (sym same) has
grants_stay C (At t h ∷ timed) T T' (mid, (later, R', happens, becomes), rest) g has =
    grants_stay C timed mid T' rest g (subst (λ (x : TimedRun). Contains x.grants g) (sym becomes) (happened_more t T.grants h g has))
grants_stay C (Renews t i n ∷ timed) T T' (mid, (later, live, becomes), rest) g has =
    grants_stay C timed mid T' rest g (subst (λ (x : TimedRun). Contains x.grants g) (sym becomes) (Contains-append_left T.grants (record { name = i; session = n; at = t } ∷ []) g has))
grants_stay C (Quits t p ∷ timed) T T' (mid, (later, idle, becomes), rest) g has = grants_stay C timed mid T' rest g (subst (λ (x : TimedRun). Contains x.grants g) (sym becomes) has)

-- What the law says.

pub stays_lem : (C : Clocks) (timed : List Timed) (T T' : TimedRun) (p i : ℕ) (session : SessionId) (since : ℕ) → TimedBy C T timed T' → IsCounted C T p i session since → IsCounted C T' p i session since
stays_lem C timed T T' p i session since by is = later_counts C T T' p i (grants_stay C timed T T' by) session since is

pub runs_lem : (C : Clocks) (timed : List Timed) (T : TimedRun) → HasTimedRun C timed T → HasRun (untimed timed) T.run
runs_lem C timed T has = (is_timed C timed T has).run

pub counts_lem : (C : Clocks) (timed : List Timed) (T : TimedRun) (p : ℕ) (q : Process) (session : SessionId) (since : ℕ) → HasTimedRun C timed T → T.run.processes p ≡ Some q → q.member.session ≡ SessionState.Live session since
    → (session ≡ session_now q.member) × IsCounted C T p q.name session since
counts_lem C timed T p q session since has there live =
    let is = is_timed C timed T has in
    (subst (λ r. session ≡ session_by r q.member.tries) (sym (same C (untimed timed) T is p q there)) (own_session C (untimed timed) T is p q there session since live), counted C (untimed timed) T is p q there session since live)

pub lasts_lem : (C : Clocks) (timed : List Timed) (T : TimedRun) (p t : ℕ) (q : Process) → HasTimedRun C timed T → T.run.processes p ≡ Some q → T.now ≤ t → T.gone p ≡ false → q.member.ending ≡ None → BeginsWhileSure T.run.store q.name q.member (C.own p t)
lasts_lem C timed T p t q has there later alive none = lasts C (untimed timed) T (is_timed C timed T has) p q there t (has.steady p) later alive none

pub works_now_lem : (C : Clocks) (timed : List Timed) (T : TimedRun) (p late t : ℕ) (x : Piece) → HasTimedRun C timed T → T.now ≤ t → IsSteady C p late → WorksInTime C T p late t x → WorksNow T.run p x
works_now_lem C timed T p late t x has later steady works = record {
  process = q;
  started = works.there;
  number = q.member.tries;
  asked = omega arith;
  works = record { live = live; work = work };
}
  where
    q : Process
    q = works.process

    is : IsTimed C (untimed timed) T
    is = is_timed C timed T has

    own : q.member.process ≡ p
    own = same C (untimed timed) T is p q works.there

    work : HasWork T.run.store q.name (id_of (session_by p q.member.tries)) x
    work = subst (λ r. HasWork T.run.store q.name (id_of (session_by r q.member.tries)) x) own works.work

    held : Contains T.run.sent (SentRelease q.name (id_by p q.member.tries)) → ⊥
    held sent = idle_works q.member.works x.partition (freed C (untimed timed) T is p q works.there q.name sent).idle ((linked C (untimed timed) T is p q works.there).knows.known x works.work)

    live : IsLive T.run.store q.name (id_of (session_by p q.member.tries))
    live = lease_kept C T p q.name q.member.tries late t works.since steady later (few C (untimed timed) T is p q works.there) is.grants works.alive held
        (subst (λ r. IsCounted C T p q.name (session_by r q.member.tries) works.since) own works.counts) works.within

pub apart_lem : (C : Clocks) (timed : List Timed) (T : TimedRun) (p q early late t : ℕ) (x y : Piece) → HasTimedRun C timed T → T.now ≤ t → IsSteady C p early → IsSteady C q late → WorksInTime C T p early t x → WorksInTime C T q late t y
    → x.partition ≡ y.partition → p ≡ q
apart_lem C timed T p q early late t x y has later one other first second same = now_lem (untimed timed) T.run p q x y (runs_lem C timed T has)
    (works_now_lem C timed T p early t x has later one first) (works_now_lem C timed T q late t y has later other second) same
