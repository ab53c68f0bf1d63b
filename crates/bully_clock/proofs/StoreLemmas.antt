-- What becomes of a lease, once the store has done an acquire of it, or a renewal.
use Rattle.std.proofs.Common.{◌≡◌, ◌≤◌, ◌<◌, ◌-◌, ◌^◌, ◌==◌, ◌∷◌, [], ℕ, Bool, true, false, List, Option, Some, None, Contains, cond, if◌then◌else◌, ◌⊎◌, inl, inr, arith, ap, refl, sym, subst, ◌∙◌}
use Rattle.std.proofs.lemmas.Bool.Decides.{nat_tests}
use Rattle.bully_agree.specs.Fencing.{Planned}
use Rattle.bully_clock.specs.Timed.{Clocks, EndsNoSooner, Grant, IsGone, IsOver, TimedRun}
use Rattle.bully_member.specs.Member.{MemberState}
use Rattle.bully_member.specs.declared.values.Request.{Request}
use Rattle.bully_member.specs.declared.values.Step.{Step}
use Rattle.bully_run.specs.Calls.{Answered, Broken, Call, Followed, Learn, Leave, Lost, Next, NotThere, Passed, SnapshotLost, SnapshotRead, Stopped, StoppedOn, Woke}
use Rattle.bully_run.specs.Run.{Deed, IsDone, Sent, SentAcquire, SentAppend, SentPromise, SentRelease, SentRollOver, begins_all, id_of, moves, piece_of, session_by, store_by, store_told, takes_in}
use Rattle.bully_work.specs.Store.{IsLive, Lease as Held, Promised, Store, begins, with_lease}

-- Who holds leases stays so.

begun_live : (ks : List ℕ) (s : Store) (i n : ℕ) (m : MemberState) (plan : Planned) → (begins_all s i n m plan ks).live ≡ s.live
begun_live [] s i n m plan = refl
begun_live (k ∷ ks) s i n m plan = begun_live ks (begins s i n (piece_of m plan k)) i n m plan

pub by_live : (s : Store) (i : ℕ) (m : MemberState) (what : Step) (d : Deed) → (store_by s i m what d).live ≡ s.live
by_live s i m (Step.Ask (Request.Acquire session offset)) d = refl
by_live s i m (Step.Ask (Request.Renew session)) d = refl
by_live s i m (Step.Ask (Request.Release session)) d = refl
by_live s i m (Step.Ask Request.Snapshot) d = refl
by_live s i m (Step.Ask (Request.Promise session offset)) d = refl
by_live s i m (Step.Ask (Request.Append offset)) d = refl
by_live s i m (Step.Ask (Request.RollOver offset)) d = refl
by_live s i m (Step.Ask Request.Follow) d = refl
by_live s i m (Step.Begin token) d = begun_live d.begun s i (id_of (record { process = m.process; number = m.tries })) m d.plan
by_live s i m Step.Stop d = refl
by_live s i m (Step.Wait at_most until reason) d = refl
by_live s i m (Step.BackOff at_most reason) d = refl
by_live s i m (Step.End ending) d = refl

live_if : (b : Bool) (s t u : Store) → s.live ≡ u.live → t.live ≡ u.live → (if b then s else t).live ≡ u.live
live_if true s t u one other = one
live_if false s t u one other = other

pub told_live : (s : Store) (i : ℕ) (m : MemberState) (call : Call) → (store_told s i m call).live ≡ s.live
told_live s i m (Next now what) = refl
told_live s i m (Answered now answer) = refl
told_live s i m (Learn records taken) = refl
told_live s i m (SnapshotRead now epoch leases has_unknown has_request) = live_if (takes_in m epoch) _ _ s refl refl
told_live s i m (SnapshotLost now leases) = refl
told_live s i m (Followed now header terms) = live_if (moves m terms) _ _ s refl refl
told_live s i m NotThere = refl
told_live s i m Passed = refl
told_live s i m Woke = refl
told_live s i m Leave = refl
told_live s i m Broken = refl
told_live s i m (Lost token) = refl
told_live s i m Stopped = refl
told_live s i m (StoppedOn k) = refl

-- The store has ended a lease, as it may.
pub record WasOver (C : Clocks) (now : ℕ) (g : Grant) : Type 0 where
  pub clock : ℕ
  pub since : ℕ
  pub to : ℕ
  pub after : g.at ≤ since
  pub before : since ≤ to
  pub past : to ≤ now
  pub ttl : (p k : ℕ) → k < 2 ^ 64 → g.session ≡ id_of (session_by p k) → C.ttl p ≤ C.ender clock to - C.ender clock since

-- the session still has its lease; or that is over; or its release was sent; or its process is over
abbrev pub Left : Clocks → (now : ℕ) → (gone : ℕ → Bool) → Store → List Sent → Grant → Type 0
Left C now gone s sent g = IsLive s g.name g.session ⊎ (WasOver C now g ⊎ (Contains sent (SentRelease g.name g.session) ⊎ IsGone gone g.session))

pub record IsKept (C : Clocks) (now : ℕ) (gone : ℕ → Bool) (s : Store) (sent : List Sent) (g : Grant) : Type 0 where
  pub past : g.at ≤ now
  pub left : Left C now gone s sent g

-- processes that are over stay so
abbrev pub Stay : (gone more : ℕ → Bool) → Type 0
Stay gone more = (p : ℕ) → gone p ≡ true → more p ≡ true

over_later : (C : Clocks) (now t : ℕ) (g : Grant) → now ≤ t → WasOver C now g → WasOver C t g
over_later C now t g later over = record {
  clock = over.clock;
  since = over.since;
  to = over.to;
  after = over.after;
  before = over.before;
  past = let past = over.past in omega (arith, later, past);
  ttl = over.ttl;
}

-- as its lease stays, or not
pub kept_if : (C : Clocks) (now t : ℕ) (gone other : ℕ → Bool) (s s' : Store) (sent all : List Sent) (g : Grant) → now ≤ t → Stay gone other → ((x : Sent) → Contains sent x → Contains all x) → (IsLive s g.name g.session → Left C t other s' all g) → IsKept C now gone s sent g → IsKept C t other s' all g
kept_if C now t gone other s s' sent all g later stay more leads kept = record {
  past = let past = kept.past in omega (arith, later, past);
  left = by_cases kept.left;
}
  where
    by_cases : Left C now gone s sent g → Left C t other s' all g
    by_cases (inl live) = leads live
    by_cases (inr (inl over)) = inr (inl (over_later C now t g later over))
    by_cases (inr (inr (inl released))) = inr (inr (inl (more (SentRelease g.name g.session) released)))
    by_cases (inr (inr (inr is))) = inr (inr (inr (record { process = is.process; number = is.number; low = is.low; own = is.own; over = stay is.process is.over })))

pub kept_same : (C : Clocks) (now t : ℕ) (gone other : ℕ → Bool) (s s' : Store) (sent all : List Sent) (g : Grant) → now ≤ t → Stay gone other → ((x : Sent) → Contains sent x → Contains all x) → s'.live ≡ s.live → IsKept C now gone s sent g → IsKept C t other s' all g
kept_same C now t gone other s s' sent all g later stay more same kept =
    kept_if C now t gone other s s' sent all g later stay more (λ live. inl (live.0, ap (λ (f : ℕ → Option Held). f g.name) same ∙ live.1)) kept

-- One lease changes.
leased : (s : Store) (i : ℕ) (here : Option Held) (g : Grant) (other : Type 0) → (g.name ≡ i → IsLive s g.name g.session → ((promised : Promised) × (here ≡ Some (record { session = g.session; promised = promised }))) ⊎ other)
    → IsLive s g.name g.session → IsLive (with_lease s i here) g.name g.session ⊎ other
leased s i here g other leads live = by_test (g.name == i) refl
  where
    by_test : (b : Bool) → (g.name == i) ≡ b → ((promised : Promised) × (cond b here (s.live g.name) ≡ Some (record { session = g.session; promised = promised }))) ⊎ other
    by_test true is = leads (grind (arith, nat_tests, is)) live
    by_test false is = inl live

abbrev held_by : ℕ → Promised → Held
held_by n promised = record { session = n; promised = promised }

-- two sessions that hold one lease
one_holder : (s : Store) (i n m : ℕ) → IsLive s i n → IsLive s i m → n ≡ m
one_holder s i n m one other =
    let both : Some (held_by n one.0) ≡ Some (held_by m other.0) = sym one.1 ∙ other.1 in
    let held : held_by n one.0 ≡ held_by m other.0 = cc both in
    ap (λ (x : Held). x.session) held

at_name : (s : Store) (g : Grant) (i n : ℕ) → g.name ≡ i → IsLive s g.name g.session → IsLive s i n → g.session ≡ n
at_name s g i n same live here = one_holder s i g.session n (subst (λ j. IsLive s j g.session) same live) here

pub kept_done : (C : Clocks) (now t : ℕ) (gone : ℕ → Bool) (s : Store) (x : Sent) (s' : Store) (sent : List Sent) (g : Grant) → now ≤ t → Contains sent x → IsDone s x s' → IsKept C now gone s sent g → IsKept C t gone s' sent g
kept_done C now t gone s (SentAcquire i n e offset) s' sent g later has (accepts, is) kept = subst (λ x. IsKept C t gone x sent g) (sym is)
    (kept_if C now t gone gone s (with_lease s i _) sent sent g later (λ p over. over) (λ x had. had) (leased s i _ g _ (λ same live. absurd (nobody same live))) kept)
  where
    nobody : g.name ≡ i → IsLive s g.name g.session → ⊥
    nobody same live =
        let here : IsLive s i g.session = subst (λ j. IsLive s j g.session) same live in
        let found : None ≡ Some (held_by g.session here.0) = sym accepts.0 ∙ here.1 in
        absurd (cc found)
kept_done C now t gone s (SentRelease i n) s' sent g later has (here, is) kept = subst (λ x. IsKept C t gone x sent g) (sym is)
    (kept_if C now t gone gone s (with_lease s i None) sent sent g later (λ p over. over) (λ x had. had) (leased s i None g _ (λ same live. inr (inr (inl (released same live))))) kept)
  where
    released : g.name ≡ i → IsLive s g.name g.session → Contains sent (SentRelease g.name g.session)
    released same live = subst (λ j. Contains sent (SentRelease j g.session)) (sym same) (subst (λ k. Contains sent (SentRelease i k)) (sym (at_name s g i n same live here)) has)
kept_done C now t gone s (SentPromise i n promised) s' sent g later has (here, is) kept = subst (λ x. IsKept C t gone x sent g) (sym is)
    (kept_if C now t gone gone s (with_lease s i _) sent sent g later (λ p over. over) (λ x had. had)
    (leased s i _ g _ (λ same live. inl (promised, ap (λ (k : ℕ). Some (held_by k promised)) (sym (at_name s g i n same live here))))) kept)
kept_done C now t gone s (SentAppend m offset silent seen events) s' sent g later has (accepts, is) kept = kept_same C now t gone gone s s' sent sent g later (λ p over. over) (λ x had. had) (ap (λ (x : Store). x.live) is) kept
kept_done C now t gone s (SentRollOver m offset silent setup number) s' sent g later has (accepts, is) kept = kept_same C now t gone gone s s' sent sent g later (λ p over. over) (λ x had. had) (ap (λ (x : Store). x.live) is) kept

-- The store ends a lease.
pub kept_ended : (C : Clocks) (T : TimedRun) (t i : ℕ) (g : Grant) → T.now ≤ t → Contains T.grants g → EndsNoSooner C T i t → IsKept C T.now T.gone T.run.store T.run.sent g → IsKept C t T.gone (with_lease T.run.store i None) T.run.sent g
kept_ended C T t i g later has ends kept =
    kept_if C T.now t T.gone T.gone T.run.store (with_lease T.run.store i None) T.run.sent T.run.sent g later (λ p over. over) (λ x had. had) (leased T.run.store i None g _ (λ same live. inr (over same live))) kept
  where
    by_cases : g.name ≡ i → IsOver C T.grants i g.session t ⊎ IsGone T.gone g.session → WasOver C t g ⊎ (Contains T.run.sent (SentRelease g.name g.session) ⊎ IsGone T.gone g.session)
    by_cases same (inl is) = inl (record { clock = is.clock; since = is.since; to = t; after = is.after g has same refl; before = is.before; past = omega arith; ttl = is.ttl })
    by_cases same (inr gone) = inr (inr gone)

    over : g.name ≡ i → IsLive T.run.store g.name g.session → WasOver C t g ⊎ (Contains T.run.sent (SentRelease g.name g.session) ⊎ IsGone T.gone g.session)
    over same live = by_cases same (ends g.session (subst (λ j. IsLive T.run.store j g.session) same live))
