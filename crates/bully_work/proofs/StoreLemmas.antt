-- The law of promises: what every store keeps, whatever is done to it.
use Rattle.std.proofs.Common.{◌≡◌, ◌≢◌, ◌<◌, ◌≤◌, ◌+◌, ◌++◌, ◌⊎◌, inl, inr, ℕ, Bool, true, false, List, [], ◌∷◌, Option, Some, None, length, length-append, take, take-append-drop, drop, Contains, arith, refl, sym, ap, subst, ◌∙◌}
use Rattle.std.proofs.Math.Seq.{take-length}
use Rattle.std.proofs.lemmas.Bool.Decides.{nat_tests}
use Rattle.std.proofs.lemmas.List.{length-take, take-append-le, take-take}
use Rattle.std.proofs.lemmas.List.Elements.{Contains-append_cases, Contains-append_left, Contains-append_right, Contains-push, Contains-push_cases}
use Rattle.std.specs.List.{AllByRecursion}
use Rattle.bully_agree.proofs.FenceLemmas.{last_plan_lem}
use Rattle.bully_agree.proofs.PlanLemmas.{one_last, token_within, tokens_rise}
use Rattle.bully_agree.specs.Fencing.{GoesBy, IsLastPlan, Planned}
use Rattle.bully_base.specs.Setup.{Setup}
use Rattle.bully_calls.specs.declared.event.Event.{Event}
use Rattle.bully_work.proofs.WorkLemmas.{one_owner}
use Rattle.bully_work.specs.Store.{Act, Append, RollOver, Acquire, Yield, End, Learn, Promise, Begin, Stop, AcceptsAppend, AcceptsRollOver, AreApart, Become, Begun, Does, Epoch, HasKept, HasPromised, HasWork, IsApart, IsApartIn, IsAtWork, IsLeft, IsLive, IsLower, IsOneToOne, IsOwner, IsReached, IsSameOrOver, Lease, MayAppend, MayBegin, MayPromise, MayRollOver, MayStop, OwnsIn, OwnsNow, Piece, Promised, Session, Store, begins, current, first_store, learns, longer, new_epoch, nothing_in, promises, rolled, stops, with_epoch, with_lease, with_session}
use Rattle.bully_work.specs.Working.{GivesTo}

pub none_in : {X : Type 0} (x : X) → Contains [] x → ⊥
none_in x (k, low, is) = absurd (omega (arith, low))

all_weaker : {P Q : Begun → Type 0} (gs : List Begun) → ((g : Begun) → P g → Q g) → AllByRecursion P gs → AllByRecursion Q gs
all_weaker [] f all = tt
all_weaker (g ∷ gs) f all = (f g all.0, all_weaker gs f all.1)

abbrev pub IsAmong : List Begun → Begun → Type 0
IsAmong [] b = ⊥
IsAmong (g ∷ gs) b = (g ≡ b) ⊎ IsAmong gs b

pub all_among : (P : Begun → Type 0) (gs : List Begun) (b : Begun) → AllByRecursion P gs → IsAmong gs b → P b
all_among P [] b all is = absurd is
all_among P (g ∷ gs) b all (inl e) = subst P e all.0
all_among P (g ∷ gs) b all (inr is) = all_among P gs b all.1 is

-- tokens rise with the length of a log
pub rise_at : (log : List Event) (b c : ℕ) (p q : Planned) → b ≤ c → IsLastPlan (take b log) p → IsLastPlan (take c log) q → (p.token ≤ q.token) × (p.token ≡ q.token → p ≡ q)
rise_at log b c p q low first last = tokens_rise (take b log) (drop b (take c log)) p q first (subst (λ events. IsLastPlan events q) parts last)
  where
    parts : take c log ≡ take b log ++ drop b (take c log)
    parts = sym (take-append-drop b (take c log)) ∙ ap (λ xs. xs ++ drop b (take c log)) (take-take b c log low)

-- an owner goes by the last plan
pub goes_by : (setup : Setup) (events : List Event) (i : ℕ) (p : Planned) (is : IsOwner setup events i p) → GoesBy is.world i p
goes_by setup events i p is =
    let by = last_plan_lem setup events is.learned.0 is.world i is.learned.1 is.normal in
    let same : by.0 ≡ p = one_last events by.0 p by.1 is.last in
    subst (GoesBy is.world i) same by.2

-- Pairs.

abbrev pub Before : ℕ → ℕ → ℕ → ℕ → Type 0
Before e a f b = (e < f) ⊎ ((e ≡ f) × (a < b))

-- the first reaches the second
abbrev pub Reach : ℕ → ℕ → ℕ → ℕ → Type 0
Reach e a f b = (f < e) ⊎ ((f ≡ e) × (b ≤ a))

pub clash : (e a f b : ℕ) → Before e a f b → Reach e a f b → ⊥
clash e a f b (inl x) (inl y) = omega (arith, x, y)
clash e a f b (inl x) (inr (y, z)) = omega (arith, x, y)
clash e a f b (inr (x, z)) (inl y) = omega (arith, x, y)
clash e a f b (inr (x, z)) (inr (y, u)) = omega (arith, z, u)

-- what is reached stands before what stands behind that
lower : (e a f b g c : ℕ) → Reach e a f b → Before e a g c → Before f b g c
lower e a f b g c (inl x) (inl y) = inl (omega (arith, x, y))
lower e a f b g c (inl x) (inr (y, z)) = inl (omega (arith, x, y))
lower e a f b g c (inr (x, z)) (inl y) = inl (omega (arith, x, y))
lower e a f b g c (inr (x, z)) (inr (y, u)) = inr (x ∙ y, omega (arith, z, u))

pub record Reaches (made : List Promised) (e t : ℕ) : Type 0 where
  pub promised : Promised
  pub is : Contains made promised
  pub far : Reach promised.epoch promised.offset e t

abbrev pub AreIn : List Promised → List Promised → Type 0
AreIn few many = (p : Promised) → Contains few p → Contains many p

pub reaches_more : (few many : List Promised) (e t : ℕ) → AreIn few many → Reaches few e t → Reaches many e t
reaches_more few many e t more r = record { promised = r.promised; is = more r.promised r.is; far = r.far }

abbrev pub AreBefore : List Promised → ℕ → ℕ → Type 0
AreBefore made e t = (p : Promised) → Contains made p → Before p.epoch p.offset e t

-- An epoch.

abbrev pub OwnerAt : Epoch → ℕ → ℕ → Planned → Type 0
OwnerAt x b i p = IsOwner x.setup (take b x.log) (x.number i) p

abbrev pub OwnsAt : Epoch → ℕ → ℕ → ℕ → Type 0
OwnsAt x b i k = OwnsIn x (take b x.log) i k

-- in this one, which is current, the part of node i by each plan that may still be begun by has only grown
abbrev pub Grows : Epoch → ℕ → ℕ → List Promised → Type 0
Grows x e i made = (b c k : ℕ) (p : Planned) → Contains x.lengths b → Contains x.lengths c → b ≤ c → OwnerAt x b i p → GivesTo p.table k (x.number i) → AreBefore made e p.token → OwnsAt x c i k

-- in this one, which is over, no plan may be begun by
abbrev pub Barren : Epoch → ℕ → ℕ → List Promised → Type 0
Barren x e i made = (b k : ℕ) (p : Planned) → Contains x.lengths b → OwnerAt x b i p → GivesTo p.table k (x.number i) → AreBefore made e p.token → ⊥

-- what was so by the one epoch is by the other, for the lengths that it had
pub record Stands (old new : Epoch) : Type 0 where
  pub had : (b : ℕ) → Contains old.lengths b → Contains new.lengths b
  pub owner : (b i : ℕ) (p : Planned) → Contains old.lengths b → OwnerAt old b i p → OwnerAt new b i p
  pub number : new.number ≡ old.number

stands_same : (x : Epoch) → Stands x x
stands_same x = record { had = λ b had. had; owner = λ b i p had owner. owner; number = refl }

abbrev pub token_of : Begun → ℕ
token_of g = g.piece.plan.token

pub record WasOwner (s : Store) (g : Begun) : Type 0 where
  pub long : ℕ
  pub within : g.piece.epoch ≤ s.epoch
  pub had : Contains (s.epochs g.piece.epoch).lengths long
  pub known : Reach (s.sessions g.name g.session).epoch (s.sessions g.name g.session).learned g.piece.epoch long
  pub number : g.piece.number ≡ (s.epochs g.piece.epoch).number g.name
  pub owner : OwnerAt (s.epochs g.piece.epoch) long g.name g.piece.plan
  pub gives : GivesTo g.piece.plan.table g.piece.partition g.piece.number

abbrev pub IsPast : ℕ → ℕ → List Promised → Begun → Type 0
IsPast i n made g = g.name ≡ i → g.session ≢ n → Reaches made g.piece.epoch (token_of g)

pub record IsFit (s : Store) (i : ℕ) (here : Lease) (made : List Promised) : Type 0 where
  pub told : Contains made here.promised
  pub grows : Grows (current s) s.epoch i made
  pub barren : (e : ℕ) → e < s.epoch → Barren (s.epochs e) e i made
  pub past : AllByRecursion (IsPast i here.session made) s.begun

abbrev pub begun_by : ℕ → ℕ → Piece → Begun
begun_by i n x = record { name = i; session = n; piece = x }

pub record IsKept (s : Store) (i n : ℕ) (session : Session) : Type 0 where
  pub known : session.epoch ≤ s.epoch
  pub had : Contains (s.epochs session.epoch).lengths session.learned
  pub began : (x : Piece) → Contains session.work x → IsAmong s.begun (begun_by i n x)
  pub within : (x : Piece) (p : Promised) → Contains session.work x → Contains session.promises p → Reach p.epoch p.offset x.epoch x.plan.token → Contains p.kept x.partition

abbrev pub IsOwned : Store → ℕ → Piece → Type 0
IsOwned s i x = (x.epoch ≡ s.epoch) × OwnsNow s i x.partition

pub record Keeps (s : Store) : Type 0 where
  pub one : (e : ℕ) → IsOneToOne (s.epochs e).number
  pub lengths : (e b : ℕ) → Contains (s.epochs e).lengths b → b ≤ length (s.epochs e).log
  pub end : Contains (current s).lengths (length (current s).log)
  pub kept : (i n : ℕ) → IsKept s i n (s.sessions i n)
  pub owned : (i n : ℕ) (x : Piece) → IsLive s i n → HasWork s i n x → IsOwned s i x
  pub fits : (i : ℕ) (here : Lease) → s.live i ≡ Some here → IsFit s i here (s.sessions i here.session).promises
  pub last : AllByRecursion (WasOwner s) s.begun
  pub apart : AreApart s.begun

pub kept_none : (p : Promised) (k : ℕ) → p.kept ≡ [] → Contains p.kept k → ⊥
kept_none p k none is = none_in k (subst (λ ks. Contains ks k) none is)

pub no_lease : (x : Option Lease) (here : Lease) → x ≡ None → x ≡ Some here → ⊥
no_lease x here none some = cc

pub one_lease : {x : Option Lease} (a b : Lease) → x ≡ Some a → x ≡ Some b → a ≡ b
one_lease a b e f = cc

abbrev pub Found : Store → ℕ → Option Lease → ℕ → Option Lease → Type 0
Found s i new j found = ((j ≡ i) × (found ≡ new)) ⊎ ((j ≢ i) × (found ≡ s.live j))

pub live : (s : Store) (i : ℕ) (new : Option Lease) (j : ℕ) → Found s i new j ((with_lease s i new).live j)
live s i new j = grind (arith, nat_tests)

abbrev pub after : Store → ℕ → ℕ → Session → ℕ → ℕ → Session
after s i n new j m = (with_session s i n new).sessions j m

abbrev pub Sessions : Store → ℕ → ℕ → Session → ℕ → ℕ → Session → Type 0
Sessions s i n new j m found = ((j ≡ i) × (m ≡ n) × (found ≡ new)) ⊎ (found ≡ s.sessions j m)

pub sessions : (s : Store) (i n : ℕ) (new : Session) (j m : ℕ) → Sessions s i n new j m (after s i n new j m)
sessions s i n new j m = grind (arith, nat_tests)

-- one epoch is written
abbrev pub written : Store → ℕ → Epoch → ℕ → Epoch
written s e new f = (with_epoch s e new).epochs f

owns_whole : (x : Epoch) (i k : ℕ) → OwnsAt x (length x.log) i k → OwnsIn x x.log i k
owns_whole x i k owns = subst (λ events. OwnsIn x events i k) (take-length x.log) owns

-- a token at a length stands no further
pub token_at : (x : Epoch) (b i : ℕ) (p : Planned) → OwnerAt x b i p → (p.token ≤ b) × (p.token ≤ length x.log)
token_at x b i p owner =
    let within = token_within (take b x.log) p owner.last in
    let size = length-take b x.log in
    (omega (arith, within, size), omega (arith, within, size))

was_within : (s : Store) (g : Begun) → WasOwner s g → token_of g ≤ length (s.epochs g.piece.epoch).log
was_within s g was = (token_at (s.epochs g.piece.epoch) was.long g.name g.piece.plan was.owner).1

pub was_of : (s : Store) (i n : ℕ) (x : Piece) → Keeps s → HasWork s i n x → WasOwner s (begun_by i n x)
was_of s i n x kept works = all_among (WasOwner s) s.begun (begun_by i n x) kept.last ((kept.kept i n).began x works)

-- what reaches the end of the current epoch's log reaches all that ever began
pub end_reaches : (s : Store) (g : Begun) (e offset : ℕ) → WasOwner s g → e ≡ s.epoch → length (current s).log ≤ offset → Reach e offset g.piece.epoch (token_of g)
end_reaches s g e offset was is far = by_case (grind arith)
  where
    by_case : (g.piece.epoch < s.epoch) ⊎ (s.epoch ≤ g.piece.epoch) → Reach e offset g.piece.epoch (token_of g)
    by_case (inl low) = inl (omega (arith, low, is))
    by_case (inr high) =
        let within = was.within in
        let same : g.piece.epoch ≡ s.epoch = omega (arith, within, high) in
        let low : token_of g ≤ length (s.epochs s.epoch).log = subst (λ f. token_of g ≤ length (s.epochs f).log) same (was_within s g was) in
        inr (same ∙ sym is, omega (arith, low, far))

fit_rises : (s : Store) (i : ℕ) (here : Lease) (few many : List Promised) → AreIn few many → IsFit s i here few → IsFit s i here many
fit_rises s i here few many more fit = record {
  told = more here.promised fit.told;
  grows = λ b c k p had later low owner gives before. fit.grows b c k p had later low owner gives (λ q is. before q (more q is));
  barren = λ e low b k p had owner gives before. fit.barren e low b k p had owner gives (λ q is. before q (more q is));
  past = all_weaker s.begun (λ g past node other. reaches_more few many g.piece.epoch (token_of g) more (past node other)) fit.past;
}

-- where its lease has promised the end of the current log, a session works on nothing but what that keeps
pub told_keeps : (s : Store) (i : ℕ) (here : Lease) (x : Piece) → Keeps s → s.live i ≡ Some here → HasWork s i here.session x → here.promised.epoch ≡ s.epoch
    → length (current s).log ≤ here.promised.offset → Contains here.promised.kept x.partition
told_keeps s i here x kept there works epoch end =
    (kept.kept i here.session).within x here.promised works (kept.fits i here there).told
    (end_reaches s (begun_by i here.session x) here.promised.epoch here.promised.offset (was_of s i here.session x kept works) epoch end)

-- What each act of a lease or a session leaves.

abbrev pub IsAcquired : Store → ℕ → Lease → Type 0
IsAcquired s i here = IsFit s i here (s.sessions i here.session).promises × ((x : Piece) → HasWork s i here.session x → IsOwned s i x)

lease_keeps : (s : Store) (i : ℕ) (new : Option Lease) → ((here : Lease) → new ≡ Some here → IsAcquired s i here) → Keeps s → Keeps (with_lease s i new)
lease_keeps s i new is kept = record {
  one = kept.one;
  lengths = kept.lengths;
  end = kept.end;
  kept = λ j m. let old = kept.kept j m in record { known = old.known; had = old.had; began = old.began; within = old.within };
  owned = λ j m x here works. owned j m x here works (live s i new j);
  fits = λ j here there. let fit = fits j here there (live s i new j) in record { told = fit.told; grows = fit.grows; barren = fit.barren; past = fit.past };
  last = all_weaker s.begun (λ g was. record { long = was.long; within = was.within; had = was.had; known = was.known; number = was.number; owner = was.owner; gives = was.gives }) kept.last;
  apart = kept.apart;
}
  where
    owned : (j m : ℕ) (x : Piece) → IsLive (with_lease s i new) j m → HasWork s j m x → Found s i new j ((with_lease s i new).live j) → IsOwned s j x
    owned j m x here works (inl (e, found)) =
        let acquired : (x : Piece) → HasWork s i m x → IsOwned s i x = (is (record { session = m; promised = here.0 }) (sym found ∙ here.1)).1 in
        subst (λ y. HasWork s y m x → IsOwned s y x) (sym e) (acquired x) works
    owned j m x here works (inr (d, found)) = kept.owned j m x (here.0, sym found ∙ here.1) works

    fits : (j : ℕ) (here : Lease) → (with_lease s i new).live j ≡ Some here → Found s i new j ((with_lease s i new).live j) → IsFit s j here (s.sessions j here.session).promises
    fits j here there (inl (e, found)) = subst (λ x. IsFit s x here (s.sessions x here.session).promises) (sym e) (is here (sym found ∙ there)).0
    fits j here there (inr (d, found)) = kept.fits j here (sym found ∙ there)

end_keeps : (s : Store) (i : ℕ) → Keeps s → Keeps (with_lease s i None)
end_keeps s i kept = lease_keeps s i None (λ here e. absurd (no_lease None here refl e)) kept

some_keeps : (s : Store) (i : ℕ) (new : Lease) → IsAcquired s i new → Keeps s → Keeps (with_lease s i (Some new))
some_keeps s i new acquired kept = lease_keeps s i (Some new) (λ here e. subst (IsAcquired s i) (one_lease new here refl e) acquired) kept

-- a session acquires the lease at the end of the current log: it has promised to keep nothing there, so it works on nothing
acquire_keeps : (s : Store) (i n e offset : ℕ) → e ≡ s.epoch → offset ≡ length (current s).log → HasPromised s i n (nothing_in e offset) → Keeps s → Keeps (with_lease s i (Some (record { session = n; promised = nothing_in e offset })))
acquire_keeps s i n e offset is end made kept = some_keeps s i (record { session = n; promised = nothing_in e offset }) (fit, owned) kept
  where
    far : length (current s).log ≤ offset
    far = omega (arith, end)

    fit : IsFit s i (record { session = n; promised = nothing_in e offset }) (s.sessions i n).promises
    fit = record {
      told = made;
      grows = λ b c k p had later low owner gives before.
          let within = (token_at (current s) b i p owner).1 in
          absurd (clash e offset s.epoch p.token (before (nothing_in e offset) made) (inr (sym is, omega (arith, within, end))));
      barren = λ f low b k p had owner gives before. clash e offset f p.token (before (nothing_in e offset) made) (inl (omega (arith, low, is)));
      past = all_weaker s.begun (λ g was node other. record { promised = nothing_in e offset; is = made; far = end_reaches s g e offset was is far }) kept.last;
    }

    owned : (x : Piece) → HasWork s i n x → IsOwned s i x
    owned x works =
        absurd (none_in x.partition ((kept.kept i n).within x (nothing_in e offset) works made (end_reaches s (begun_by i n x) e offset (was_of s i n x kept works) is far)))

yield_keeps : (s : Store) (i n : ℕ) (promised : Promised) → IsLive s i n → HasPromised s i n promised → Keeps s → Keeps (with_lease s i (Some (record { session = n; promised = promised })))
yield_keeps s i n promised here made kept =
    let old = kept.fits i (record { session = n; promised = here.0 }) here.1 in
    some_keeps s i (record { session = n; promised = promised }) (record { told = made; grows = old.grows; barren = old.barren; past = old.past }, λ x works. kept.owned i n x here works) kept

pub record GoesOn (s : Store) (i n : ℕ) (new : Session) : Type 0 where
  pub learned : Reach new.epoch new.learned (s.sessions i n).epoch (s.sessions i n).learned
  pub promises : AreIn (s.sessions i n).promises new.promises
  pub kept : IsKept s i n new
  pub owned : (x : Piece) → IsLive s i n → Contains new.work x → IsOwned s i x

reach_on : (e a f b g c : ℕ) → Reach e a f b → Reach f b g c → Reach e a g c
reach_on e a f b g c (inl x) (inl y) = inl (omega (arith, x, y))
reach_on e a f b g c (inl x) (inr (y, z)) = inl (omega (arith, x, y))
reach_on e a f b g c (inr (x, z)) (inl y) = inl (omega (arith, x, y))
reach_on e a f b g c (inr (x, z)) (inr (y, u)) = inr (y ∙ x, omega (arith, z, u))

session_keeps : (s : Store) (i n : ℕ) (new : Session) → GoesOn s i n new → Keeps s → Keeps (with_session s i n new)
session_keeps s i n new goes kept = record {
  one = kept.one;
  lengths = kept.lengths;
  end = kept.end;
  kept = λ j m. let is = is_kept j m (sessions s i n new j m) in record { known = is.known; had = is.had; began = is.began; within = is.within };
  owned = λ j m x here works. owned j m x here works (sessions s i n new j m);
  fits = λ j here there. let fit = fits j here there (sessions s i n new j here.session) in record { told = fit.told; grows = fit.grows; barren = fit.barren; past = fit.past };
  last = all_weaker s.begun
      (λ g was. record { long = was.long; within = was.within; had = was.had; known = known g was.long was.known (sessions s i n new g.name g.session); number = was.number; owner = was.owner; gives = was.gives }) kept.last;
  apart = kept.apart;
}
  where
    is_kept : (j m : ℕ) → Sessions s i n new j m (after s i n new j m) → IsKept s j m (after s i n new j m)
    is_kept j m (inl (e, f, found)) =
        subst (λ y. IsKept s y m (after s i n new j m)) (sym e)
        (subst (λ y. IsKept s i y (after s i n new j m)) (sym f)
        (subst (λ (x : Session). IsKept s i n x) (sym found) goes.kept))
    is_kept j m (inr found) = subst (λ (x : Session). IsKept s j m x) (sym found) (kept.kept j m)

    known : (g : Begun) (b : ℕ) → Reach (s.sessions g.name g.session).epoch (s.sessions g.name g.session).learned g.piece.epoch b → Sessions s i n new g.name g.session (after s i n new g.name g.session)
        → Reach (after s i n new g.name g.session).epoch (after s i n new g.name g.session).learned g.piece.epoch b
    known g b low (inl (e, f, found)) =
        let old : Reach (s.sessions i n).epoch (s.sessions i n).learned g.piece.epoch b =
        subst (λ y. Reach (s.sessions i y).epoch (s.sessions i y).learned g.piece.epoch b) f (subst (λ y. Reach (s.sessions y g.session).epoch (s.sessions y g.session).learned g.piece.epoch b) e low) in
        subst (λ (x : Session). Reach x.epoch x.learned g.piece.epoch b) (sym found) (reach_on new.epoch new.learned (s.sessions i n).epoch (s.sessions i n).learned g.piece.epoch b goes.learned old)
    known g b low (inr found) = subst (λ (x : Session). Reach x.epoch x.learned g.piece.epoch b) (sym found) low

    owned : (j m : ℕ) (x : Piece) → IsLive s j m → Contains (after s i n new j m).work x → Sessions s i n new j m (after s i n new j m) → IsOwned s j x
    owned j m x here works (inl (e, f, found)) =
        let there : IsLive s i n = subst (λ y. IsLive s y n) e (subst (λ y. IsLive s j y) f here) in
        subst (λ y. IsOwned s y x) (sym e) (goes.owned x there (subst (λ (l : Session). Contains l.work x) found works))
    owned j m x here works (inr found) = kept.owned j m x here (subst (λ (l : Session). Contains l.work x) found works)

    promised : (j m : ℕ) → Sessions s i n new j m (after s i n new j m) → AreIn (s.sessions j m).promises (after s i n new j m).promises
    promised j m (inl (e, f, found)) =
        subst (λ (x : Session). AreIn (s.sessions j m).promises x.promises) (sym found)
        (subst (λ y. AreIn (s.sessions y m).promises new.promises) (sym e) (subst (λ y. AreIn (s.sessions i y).promises new.promises) (sym f) goes.promises))
    promised j m (inr found) = subst (λ (x : Session). AreIn (s.sessions j m).promises x.promises) (sym found) (λ p is. is)

    fits : (j : ℕ) (here : Lease) → s.live j ≡ Some here → Sessions s i n new j here.session (after s i n new j here.session) → IsFit s j here (after s i n new j here.session).promises
    fits j here there is = fit_rises s j here (s.sessions j here.session).promises (after s i n new j here.session).promises (promised j here.session is) (kept.fits j here there)

same_reach : (e a : ℕ) → Reach e a e a
same_reach e a = inr (refl, omega arith)

learn_keeps : (s : Store) (i n e offset : ℕ) → e ≤ s.epoch → Contains (s.epochs e).lengths offset → ((s.sessions i n).epoch < e) ⊎ (((s.sessions i n).epoch ≡ e) × ((s.sessions i n).learned ≤ offset)) → Keeps s
    → Keeps (learns s i n e offset)
learn_keeps s i n e offset low had rises kept = session_keeps s i n (record (s.sessions i n) { epoch = e; learned = offset }) (record {
  learned = rises;
  promises = λ p made. made;
  kept = let old = kept.kept i n in record { known = low; had = had; began = old.began; within = old.within };
  owned = λ x here works. kept.owned i n x here works;
}) kept

promise_keeps : (s : Store) (i n : ℕ) (promised : Promised) → MayPromise s i n promised → Keeps s → Keeps (promises s i n promised)
promise_keeps s i n promised may kept = session_keeps s i n new goes kept
  where
    new : Session
    new = record (s.sessions i n) { promises = (s.sessions i n).promises ++ promised ∷ [] }

    within : (x : Piece) (p : Promised) → HasWork s i n x → Reach p.epoch p.offset x.epoch x.plan.token → Contains (s.sessions i n).promises p ⊎ (promised ≡ p) → Contains p.kept x.partition
    within x p works far (inl made) = (kept.kept i n).within x p works made far
    within x p works far (inr e) = subst (λ (q : Promised). Contains q.kept x.partition) e (may x works)

    goes : GoesOn s i n new
    goes = record {
      learned = same_reach (s.sessions i n).epoch (s.sessions i n).learned;
      promises = λ p made. Contains-append_left (s.sessions i n).promises (promised ∷ []) p made;
      kept = let old = kept.kept i n in record {
        known = old.known;
        had = old.had;
        began = old.began;
        within = λ x p works made far. within x p works far (Contains-push_cases (s.sessions i n).promises promised p made);
      };
      owned = λ x here works. kept.owned i n x here works;
    }

stop_keeps : (s : Store) (i n : ℕ) (left : List Piece) → MayStop s i n left → Keeps s → Keeps (stops s i n left)
stop_keeps s i n left may kept = session_keeps s i n (record (s.sessions i n) { work = left }) (record {
  learned = same_reach (s.sessions i n).epoch (s.sessions i n).learned;
  promises = λ p made. made;
  kept = let old = kept.kept i n in record {
    known = old.known;
    had = old.had;
    began = λ x is. old.began x (may x is);
    within = λ x p is made far. old.within x p (may x is) made far;
  };
  owned = λ x here is. kept.owned i n x here (may x is);
}) kept

-- Who begins.

owner_by : (s : Store) (i n : ℕ) (x : Piece) → MayBegin s i n x → OwnerAt (s.epochs x.epoch) (s.sessions i n).learned i x.plan
owner_by s i n x may = subst (λ j. IsOwner (s.epochs x.epoch).setup (take (s.sessions i n).learned (s.epochs x.epoch).log) j x.plan) may.number may.owner

gives_by : (s : Store) (i n : ℕ) (x : Piece) → MayBegin s i n x → GivesTo x.plan.table x.partition ((s.epochs x.epoch).number i)
gives_by s i n x may = subst (λ j. GivesTo x.plan.table x.partition j) may.number may.gives

-- it does so by the current epoch
begins_now : (s : Store) (i n : ℕ) (x : Piece) → MayBegin s i n x → Keeps s → x.epoch ≡ s.epoch
begins_now s i n x may kept = by_case (grind arith)
  where
    low : x.epoch ≤ s.epoch
    low = let known = (kept.kept i n).known in let same = may.epoch in omega (arith, known, same)

    by_case : (x.epoch < s.epoch) ⊎ (s.epoch ≤ x.epoch) → x.epoch ≡ s.epoch
    by_case (inr high) = omega (arith, low, high)
    by_case (inl less) =
        absurd ((kept.fits i (record { session = n; promised = may.live.0 }) may.live.1).barren x.epoch less (s.sessions i n).learned x.partition x.plan
        (subst (λ e. Contains (s.epochs e).lengths (s.sessions i n).learned) (sym may.epoch) (kept.kept i n).had) (owner_by s i n x may) (gives_by s i n x may) may.behind)

-- what it begins by, said of the current epoch
pub record BeginsBy (s : Store) (i n : ℕ) (x : Piece) : Type 0 where
  pub now : x.epoch ≡ s.epoch
  pub learned : (s.sessions i n).epoch ≡ s.epoch
  pub had : Contains (current s).lengths (s.sessions i n).learned
  pub number : x.number ≡ (current s).number i
  pub owner : OwnerAt (current s) (s.sessions i n).learned i x.plan
  pub gives : GivesTo x.plan.table x.partition ((current s).number i)
  pub behind : AreBefore (s.sessions i n).promises s.epoch x.plan.token

pub begins_by : (s : Store) (i n : ℕ) (x : Piece) → MayBegin s i n x → Keeps s → BeginsBy s i n x
begins_by s i n x may kept =
    let now = begins_now s i n x may kept in
    let learned : (s.sessions i n).epoch ≡ s.epoch = sym may.epoch ∙ now in
    record {
      now = now;
      learned = learned;
      had = subst (λ e. Contains (s.epochs e).lengths (s.sessions i n).learned) learned (kept.kept i n).had;
      number = may.number ∙ ap (λ e. (s.epochs e).number i) now;
      owner = subst (λ e. OwnerAt (s.epochs e) (s.sessions i n).learned i x.plan) now (owner_by s i n x may);
      gives = subst (λ e. GivesTo x.plan.table x.partition ((s.epochs e).number i)) now (gives_by s i n x may);
      behind = subst (λ e. AreBefore (s.sessions i n).promises e x.plan.token) now may.behind;
    }

begin_owns : (s : Store) (i n : ℕ) (x : Piece) → MayBegin s i n x → Keeps s → IsOwned s i x
begin_owns s i n x may kept =
    let by = begins_by s i n x may kept in (
      by.now,
      owns_whole (current s) i x.partition
          ((kept.fits i (record { session = n; promised = may.live.0 }) may.live.1).grows (s.sessions i n).learned (length (current s).log) x.partition x.plan by.had kept.end
          (kept.lengths s.epoch (s.sessions i n).learned by.had) by.owner by.gives by.behind),
    )

-- ... is apart from one before in this epoch
apart_now : (s : Store) (i n : ℕ) (x : Piece) (g : Begun) → IsOneToOne (current s).number → MayBegin s i n x → BeginsBy s i n x → Grows (current s) s.epoch i (s.sessions i n).promises → WasOwner s g → g.piece.epoch ≡ s.epoch
    → IsPast i n (s.sessions i n).promises g → IsApartIn (record { name = i; session = n; piece = x }) g
apart_now s i n x g one may by grows was here past = record {
  rises = λ same. parts x.partition (subst (λ k. GivesTo g.piece.plan.table k g.piece.number) same was.gives) may.gives (grind arith);
  parts = λ k here there. parts k here there (grind arith);
  ages = λ node. ages node (grind arith);
  name = λ token node. by_session token node (grind arith);
  begun = λ token same. alike token x.partition (subst (λ k. GivesTo g.piece.plan.table k g.piece.number) same was.gives) may.gives;
  partition = λ k token here there. alike token k here there;
}
  where
    owner : OwnerAt (current s) was.long g.name g.piece.plan
    owner = subst (λ e. OwnerAt (s.epochs e) was.long g.name g.piece.plan) here was.owner

    had : Contains (current s).lengths was.long
    had = subst (λ e. Contains (s.epochs e).lengths was.long) here was.had

    -- with the same node they have the same name
    name : g.piece.number ≡ x.number → g.name ≡ i
    name same = one g.name i (sym (was.number ∙ ap (λ e. (s.epochs e).number g.name) here) ∙ same ∙ by.number)

    rise : was.long ≤ (s.sessions i n).learned → (token_of g ≤ x.plan.token) × (token_of g ≡ x.plan.token → g.piece.plan ≡ x.plan)
    rise low = rise_at (current s).log was.long (s.sessions i n).learned g.piece.plan x.plan low owner.last by.owner.last

    one_plan : token_of g ≡ x.plan.token → (was.long ≤ (s.sessions i n).learned) ⊎ ((s.sessions i n).learned ≤ was.long) → g.piece.plan ≡ x.plan
    one_plan token (inl low) = (rise low).1 token
    one_plan token (inr low) = sym ((rise_at (current s).log (s.sessions i n).learned was.long x.plan g.piece.plan low by.owner.last owner.last).1 (sym token))

    reached : g.name ≡ i → g.session ≢ n → token_of g < x.plan.token
    reached node other = less (past node other)
      where
        less : Reaches (s.sessions i n).promises g.piece.epoch (token_of g) → token_of g < x.plan.token
        less old = by_case (lower old.promised.epoch old.promised.offset g.piece.epoch (token_of g) s.epoch x.plan.token old.far (by.behind old.promised old.is))
          where
            by_case : Before g.piece.epoch (token_of g) s.epoch x.plan.token → token_of g < x.plan.token
            by_case (inl low) = absurd (omega (arith, low, here))
            by_case (inr (e, low)) = low

    knows : Reach (s.sessions i n).epoch (s.sessions i n).learned g.piece.epoch was.long → was.long ≤ (s.sessions i n).learned
    knows (inl low) = let same = by.learned in absurd (omega (arith, low, here, same))
    knows (inr (e, low)) = low

    ages : g.name ≡ i → (g.session ≡ n) ⊎ (g.session ≢ n) → token_of g ≤ x.plan.token
    ages node (inl session) =
        (rise (knows (subst (λ m. Reach (s.sessions i m).epoch (s.sessions i m).learned g.piece.epoch was.long) session
        (subst (λ j. Reach (s.sessions j g.session).epoch (s.sessions j g.session).learned g.piece.epoch was.long) node was.known)))).0
    ages node (inr other) = let less = reached node other in omega (arith, less)

    by_session : token_of g ≡ x.plan.token → g.name ≡ i → (g.session ≡ n) ⊎ (g.session ≢ n) → g.session ≡ n
    by_session token node (inl e) = e
    by_session token node (inr d) = let less = reached node d in absurd (omega (arith, less, token))

    parts : (k : ℕ) → GivesTo g.piece.plan.table k g.piece.number → GivesTo x.plan.table k x.number → (token_of g ≤ x.plan.token) ⊎ (x.plan.token < token_of g) → token_of g ≤ x.plan.token
    parts k here there (inl low) = low
    parts k here there (inr less) = by_length (grind arith)
      where
        by_length : (was.long ≤ (s.sessions i n).learned) ⊎ ((s.sessions i n).learned ≤ was.long) → token_of g ≤ x.plan.token
        by_length (inl low) = (rise low).0
        by_length (inr low) =
            let owns : OwnsAt (current s) was.long i k = grows (s.sessions i n).learned was.long k x.plan by.had had low by.owner (subst (λ j. GivesTo x.plan.table k j) by.number there) by.behind in
            let same : owns.plan ≡ g.piece.plan = one_last (take was.long (current s).log) owns.plan g.piece.plan owns.owner.last owner.last in
            let node : g.name ≡ i = name (one_owner g.piece.plan.table owns.plan.table g.piece.number ((current s).number i) k (sym (ap (λ (p : Planned). p.table) same)) here owns.gives ∙ sym by.number) in
            ages node (grind arith)

    alike : token_of g ≡ x.plan.token → (k : ℕ) → GivesTo g.piece.plan.table k g.piece.number → GivesTo x.plan.table k x.number → (g.name ≡ i) × (g.session ≡ n)
    alike token k here there =
        let node : g.name ≡ i = name (one_owner g.piece.plan.table x.plan.table g.piece.number x.number k (ap (λ (p : Planned). p.table) (one_plan token (grind arith))) here there) in
        (node, by_session token node (grind arith))

new_apart : (s : Store) (i n : ℕ) (x : Piece) (g : Begun) → IsOneToOne (current s).number → MayBegin s i n x → BeginsBy s i n x → Grows (current s) s.epoch i (s.sessions i n).promises → WasOwner s g → IsPast i n (s.sessions i n).promises g
    → IsApart (begun_by i n x) g
new_apart s i n x g one may by grows was past = by_case (grind arith)
  where
    by_case : (g.piece.epoch < s.epoch) ⊎ (s.epoch ≤ g.piece.epoch) → IsApart (begun_by i n x) g
    by_case (inl low) = let now = by.now in inl (omega (arith, low, now))
    by_case (inr high) =
        let within = was.within in
        let here : g.piece.epoch ≡ s.epoch = omega (arith, within, high) in
        inr (here ∙ sym by.now, apart_now s i n x g one may by grows was here past)

all_apart : (s : Store) (i n : ℕ) (x : Piece) (gs : List Begun) → IsOneToOne (current s).number → MayBegin s i n x → BeginsBy s i n x → Grows (current s) s.epoch i (s.sessions i n).promises → AllByRecursion (WasOwner s) gs
    → AllByRecursion (IsPast i n (s.sessions i n).promises) gs → AllByRecursion (IsApart (begun_by i n x)) gs
all_apart s i n x [] one may by grows was past = tt
all_apart s i n x (g ∷ gs) one may by grows was past = (new_apart s i n x g one may by grows was.0 past.0, all_apart s i n x gs one may by grows was.1 past.1)

begin_apart : (s : Store) (i n : ℕ) (x : Piece) → MayBegin s i n x → Keeps s → AllByRecursion (IsApart (begun_by i n x)) s.begun
begin_apart s i n x may kept =
    let fit = kept.fits i (record { session = n; promised = may.live.0 }) may.live.1 in
    all_apart s i n x s.begun (kept.one s.epoch) may (begins_by s i n x may kept) fit.grows kept.last fit.past

begun_keeps : (s : Store) (i n : ℕ) (x : Piece) → MayBegin s i n x → Keeps s → Keeps (record s { begun = begun_by i n x ∷ s.begun })
begun_keeps s i n x may kept = record {
  one = kept.one;
  lengths = kept.lengths;
  end = kept.end;
  kept = λ j m. let old = kept.kept j m in record { known = old.known; had = old.had; began = λ y works. inr (old.began y works); within = old.within };
  owned = λ j m y here works. kept.owned j m y here works;
  fits = λ j there is. let fit = kept.fits j there is in record { told = fit.told; grows = fit.grows; barren = fit.barren; past = (past j there is, fit.past) };
  last = (
    record {
      long = (s.sessions i n).learned;
      within = let now = by.now in omega (arith, now);
      had = subst (λ e. Contains (s.epochs e).lengths (s.sessions i n).learned) (sym may.epoch) (kept.kept i n).had;
      known = inr (may.epoch, omega arith);
      number = may.number;
      owner = owner_by s i n x may;
      gives = may.gives;
    },
    all_weaker s.begun (λ g was. record { long = was.long; within = was.within; had = was.had; known = was.known; number = was.number; owner = was.owner; gives = was.gives }) kept.last,
  );
  apart = (begin_apart s i n x may kept, kept.apart);
}
  where
    by : BeginsBy s i n x
    by = begins_by s i n x may kept

    past : (j : ℕ) (there : Lease) → s.live j ≡ Some there → IsPast j there.session (s.sessions j there.session).promises (begun_by i n x)
    past j there is node other =
        let same : record { session = n; promised = may.live.0 } ≡ there = one_lease (record { session = n; promised = may.live.0 }) there may.live.1 (ap s.live node ∙ is) in
        absurd (other (ap (λ (p : Lease). p.session) same))

begin_keeps : (s : Store) (i n : ℕ) (x : Piece) → MayBegin s i n x → Keeps s
    → Keeps (begins s i n x)
begin_keeps s i n x may kept = session_keeps began i n new goes (begun_keeps s i n x may kept)
  where
    began : Store
    began = record s { begun = begun_by i n x ∷ s.begun }

    new : Session
    new = record (s.sessions i n) { work = (s.sessions i n).work ++ x ∷ [] }

    among : (y : Piece) → HasWork s i n y ⊎ (x ≡ y) → IsAmong began.begun (begun_by i n y)
    among y (inl works) = inr ((kept.kept i n).began y works)
    among y (inr e) = inl (ap (λ p. begun_by i n p) e)

    within : (y : Piece) (p : Promised) → HasPromised s i n p → Reach p.epoch p.offset y.epoch y.plan.token → HasWork s i n y ⊎ (x ≡ y) → Contains p.kept y.partition
    within y p made far (inl works) = (kept.kept i n).within y p works made far
    within y p made far (inr e) =
        absurd (clash p.epoch p.offset y.epoch y.plan.token (subst (λ (z : Piece). Before p.epoch p.offset z.epoch z.plan.token) e (may.behind p made)) far)

    owned : (y : Piece) → IsLive s i n → HasWork s i n y ⊎ (x ≡ y) → IsOwned s i y
    owned y here (inl works) = kept.owned i n y here works
    owned y here (inr e) = subst (λ (z : Piece). IsOwned s i z) e (begin_owns s i n x may kept)

    goes : GoesOn began i n new
    goes = record {
      learned = same_reach (s.sessions i n).epoch (s.sessions i n).learned;
      promises = λ p made. made;
      kept = record {
        known = (kept.kept i n).known;
        had = (kept.kept i n).had;
        began = λ y is. among y (Contains-push_cases (s.sessions i n).work x y is);
        within = λ y p is made far. within y p made far (Contains-push_cases (s.sessions i n).work x y is);
      };
      owned = λ y here is. owned y here (Contains-push_cases (s.sessions i n).work x y is);
    }

-- An epoch is written.

abbrev pub FoundEpoch : Store → ℕ → Epoch → ℕ → Epoch → Type 0
FoundEpoch s e new f found = ((f ≡ e) × (found ≡ new)) ⊎ ((f ≢ e) × (found ≡ s.epochs f))

pub found_epoch : (s : Store) (e : ℕ) (new : Epoch) (f : ℕ) → FoundEpoch s e new f (written s e new f)
found_epoch s e new f = grind (arith, nat_tests)

pub written_is : (s : Store) (e : ℕ) (new : Epoch) → written s e new e ≡ new
written_is s e new = by_case (found_epoch s e new e)
  where
    by_case : FoundEpoch s e new e (written s e new e) → written s e new e ≡ new
    by_case (inl (is, found)) = found
    by_case (inr (d, found)) = absurd (d refl)

pub written_other : (s : Store) (e : ℕ) (new : Epoch) (f : ℕ) → f ≢ e → written s e new f ≡ s.epochs f
written_other s e new f other = by_case (found_epoch s e new f)
  where
    by_case : FoundEpoch s e new f (written s e new f) → written s e new f ≡ s.epochs f
    by_case (inl (is, found)) = absurd (other is)
    by_case (inr (d, found)) = found

-- what began, by epochs that stand
was_stands : (s : Store) (e now : ℕ) (new : Epoch) → s.epoch ≤ now → ((f : ℕ) → f ≤ s.epoch → Stands (s.epochs f) (written s e new f)) → (g : Begun) → WasOwner s g → WasOwner (record (with_epoch s e new) { epoch = now }) g
was_stands s e now new rises stands g was = record {
  long = was.long;
  within = let low = was.within in omega (arith, low, rises);
  had = (stands g.piece.epoch was.within).had was.long was.had;
  known = was.known;
  number = was.number ∙ sym (ap (λ f. f g.name) (stands g.piece.epoch was.within).number);
  owner = (stands g.piece.epoch was.within).owner was.long g.name g.piece.plan was.had was.owner;
  gives = was.gives;
}

kept_stands : (s : Store) (e now : ℕ) (new : Epoch) → s.epoch ≤ now → ((f : ℕ) → f ≤ s.epoch → Stands (s.epochs f) (written s e new f)) → (i n : ℕ) → IsKept s i n (s.sessions i n) → IsKept (record (with_epoch s e new) { epoch = now }) i n (s.sessions i n)
kept_stands s e now new rises stands i n old = record {
  known = let low = old.known in omega (arith, low, rises);
  had = (stands (s.sessions i n).epoch old.known).had (s.sessions i n).learned old.had;
  began = old.began;
  within = old.within;
}

-- The log grows.

abbrev pub IsWhole : Store → List Event → ℕ → Type 0
IsWhole s events i = (k : ℕ) → OwnsNow s i k → OwnsIn (current s) ((current s).log ++ events) i k

pub record IsAsked (s : Store) (events : List Event) (i : ℕ) (here : Lease) : Type 0 where
  pub epoch : here.promised.epoch ≡ s.epoch
  pub idle : here.promised.offset ≡ length (current s).log
  pub kept : (k : ℕ) → Contains here.promised.kept k → OwnsIn (current s) ((current s).log ++ events) i k

abbrev pub IsIn : Store → List Event → ℕ → Lease → Type 0
IsIn s events i here = IsWhole s events i ⊎ IsAsked s events i here

pub is_asked : (s : Store) (e offset : ℕ) (silent : ℕ → Bool) (seen : ℕ → Option Lease) (events : List Event) → AcceptsAppend s e offset silent seen → MayAppend s e offset silent seen events
    → (i : ℕ) (here : Lease) → s.live i ≡ Some here → silent i ≡ false → IsAsked s events i here
is_asked s e offset silent seen events (same, end, accepts) may i here there spoken = by_case (accepts i here there spoken)
  where
    by_case : (seen i ≡ Some here) ⊎ (here.promised ≡ nothing_in e offset) → IsAsked s events i here
    by_case (inl is) = record {
      epoch = (may.idle i here spoken is).0 ∙ same;
      idle = (may.idle i here spoken is).1 ∙ end;
      kept = λ k has. may.kept i k here spoken is has;
    }
    by_case (inr is) = record {
      epoch = ap (λ (p : Promised). p.epoch) is ∙ same;
      idle = ap (λ (p : Promised). p.offset) is ∙ end;
      kept = λ k has. absurd (kept_none here.promised k (ap (λ (p : Promised). p.kept) is) has);
    }

all_in : (s : Store) (e offset : ℕ) (silent : ℕ → Bool) (seen : ℕ → Option Lease) (events : List Event) → AcceptsAppend s e offset silent seen → MayAppend s e offset silent seen events
    → (i : ℕ) (here : Lease) → s.live i ≡ Some here → IsIn s events i here
all_in s e offset silent seen events accepts may i here there = by_silent (silent i) refl
  where
    by_silent : (b : Bool) → silent i ≡ b → IsIn s events i here
    by_silent true is = inl (λ k owns. may.whole i k is owns)
    by_silent false is = inr (is_asked s e offset silent seen events accepts may i here there is)

abbrev pub grown : Epoch → List Event → Epoch
grown x events = record x { log = x.log ++ events; lengths = x.lengths ++ length (x.log ++ events) ∷ [] }

append_keeps : (s : Store) (events : List Event) → ((i : ℕ) (here : Lease) → s.live i ≡ Some here → IsIn s events i here) → Keeps s → Keeps (longer s events)
append_keeps s events are_in kept = record {
  one = λ f. subst IsOneToOne (sym (stands f).number) (kept.one f);
  lengths = λ f b had. lengths f b had (found_epoch s s.epoch new f);
  end = subst (λ y. Contains y.lengths (length y.log)) (sym at) (Contains-push x.lengths (length (x.log ++ events)));
  kept = λ i n. let is = kept_stands s s.epoch s.epoch new (omega arith) (λ f low. stands f) i n (kept.kept i n) in record { known = is.known; had = is.had; began = is.began; within = is.within };
  owned = λ i n y here works. owned i n y here works (are_in i (record { session = n; promised = here.0 }) here.1);
  fits = λ i here there. let fit = kept.fits i here there in record { told = fit.told; grows = grows i here there; barren = barren i here there; past = fit.past };
  last = all_weaker s.begun
      (λ g was. let is = was_stands s s.epoch s.epoch new (omega arith) (λ f low. stands f) g was in record { long = is.long; within = is.within; had = is.had; known = is.known; number = is.number; owner = is.owner; gives = is.gives }) kept.last;
  apart = kept.apart;
}
  where
    x : Epoch
    x = current s

    new : Epoch
    new = grown (current s) events

    at : written s s.epoch new s.epoch ≡ new
    at = written_is s s.epoch new

    size : length ((current s).log ++ events) ≡ length (current s).log + length events
    size = length-append (current s).log events

    as_before : (b : ℕ) → Contains (current s).lengths b → take b ((current s).log ++ events) ≡ take b (current s).log
    as_before b had = take-append-le b (current s).log events (kept.lengths s.epoch b had)

    grown_stands : Stands (current s) (grown (current s) events)
    grown_stands = record {
      had = λ b had. Contains-append_left (current s).lengths (length ((current s).log ++ events) ∷ []) b had;
      owner = λ b i p had owner. subst (λ log. IsOwner (current s).setup log ((current s).number i) p) (sym (as_before b had)) owner;
      number = refl;
    }

    stands : (f : ℕ) → Stands (s.epochs f) (written s s.epoch new f)
    stands f = by_case (found_epoch s s.epoch new f)
      where
        by_case : FoundEpoch s s.epoch new f (written s s.epoch new f) → Stands (s.epochs f) (written s s.epoch new f)
        by_case (inl (e, found)) = subst (Stands (s.epochs f)) (sym found) (subst (λ y. Stands (s.epochs y) new) (sym e) grown_stands)
        by_case (inr (d, found)) = subst (Stands (s.epochs f)) (sym found) (stands_same (s.epochs f))

    within : (b : ℕ) → Contains (current s).lengths b ⊎ (length ((current s).log ++ events) ≡ b) → b ≤ length ((current s).log ++ events)
    within b (inl had) = let old = kept.lengths s.epoch b had in omega (arith, old, size)
    within b (inr is) = omega (arith, is)

    lengths : (f b : ℕ) → Contains (written s s.epoch new f).lengths b → FoundEpoch s s.epoch new f (written s s.epoch new f) → b ≤ length (written s s.epoch new f).log
    lengths f b had (inl (e, found)) =
        subst (λ y. b ≤ length y.log) (sym found) (within b (Contains-push_cases (current s).lengths (length ((current s).log ++ events)) b (subst (λ y. Contains y.lengths b) found had)))
    lengths f b had (inr (d, found)) = subst (λ y. b ≤ length y.log) (sym found) (kept.lengths f b (subst (λ y. Contains y.lengths b) found had))

    owns_new : (i n : ℕ) (y : Piece) (here : IsLive s i n) → HasWork s i n y → IsIn s events i (record { session = n; promised = here.0 }) → OwnsIn (current s) ((current s).log ++ events) i y.partition
    owns_new i n y here works (inl whole) = whole y.partition (kept.owned i n y here works).1
    owns_new i n y here works (inr asked) =
        let idle = asked.idle in
        asked.kept y.partition (told_keeps s i (record { session = n; promised = here.0 }) y kept here.1 works asked.epoch (omega (arith, idle)))

    owned : (i n : ℕ) (y : Piece) (here : IsLive s i n) → HasWork s i n y → IsIn s events i (record { session = n; promised = here.0 }) → IsOwned (longer s events) i y
    owned i n y here works is = ((kept.owned i n y here works).0, subst (λ z. OwnsIn z z.log i y.partition) (sym at) (owns_new i n y here works is))

    loses : (i k : ℕ) (here : Lease) (p : Planned) → s.live i ≡ Some here → p.token ≤ length (current s).log → AreBefore (s.sessions i here.session).promises s.epoch p.token → OwnsNow s i k → IsIn s events i here
        → OwnsIn (current s) ((current s).log ++ events) i k
    loses i k here p there low before owns (inl whole) = whole k owns
    loses i k here p there low before owns (inr asked) =
        let idle = asked.idle in
        absurd (clash here.promised.epoch here.promised.offset s.epoch p.token (before here.promised (kept.fits i here there).told) (inr (sym asked.epoch, omega (arith, idle, low))))

    at_one : (b c i k : ℕ) (p : Planned) → b ≡ c → OwnerAt new b i p → GivesTo p.table k (new.number i) → OwnsAt new c i k
    at_one b c i k p e owner gives = record { plan = p; owner = subst (λ y. OwnerAt new y i p) e owner; gives = gives }

    step : (i : ℕ) (here : Lease) → s.live i ≡ Some here → (b c k : ℕ) (p : Planned) → b ≤ c → OwnerAt new b i p → GivesTo p.table k (new.number i) → AreBefore (s.sessions i here.session).promises s.epoch p.token
        → Contains (current s).lengths b ⊎ (length ((current s).log ++ events) ≡ b) → Contains (current s).lengths c ⊎ (length ((current s).log ++ events) ≡ c) → OwnsAt new c i k
    step i here there b c k p low owner gives before (inl had) (inl later) =
        subst (λ log. OwnsIn (current s) log i k) (sym (as_before c later))
        ((kept.fits i here there).grows b c k p had later low (subst (λ log. IsOwner (current s).setup log ((current s).number i) p) (as_before b had) owner) gives before)
    step i here there b c k p low owner gives before (inr fresh) (inr e) = at_one b c i k p (omega (arith, fresh, e)) owner gives
    step i here there b c k p low owner gives before (inr fresh) (inl later) = let old = kept.lengths s.epoch c later in at_one b c i k p (omega (arith, fresh, old, low, size)) owner gives
    step i here there b c k p low owner gives before (inl had) (inr e) =
        let first : OwnerAt (current s) b i p = subst (λ log. IsOwner (current s).setup log ((current s).number i) p) (as_before b had) owner in
        let within = (token_at (current s) b i p first).1 in
        let owns : OwnsNow s i k = owns_whole (current s) i k ((kept.fits i here there).grows b (length (current s).log) k p had kept.end (kept.lengths s.epoch b had) first gives before) in
        subst (λ log. OwnsIn (current s) log i k) (sym (ap (λ y. take y ((current s).log ++ events)) (sym e) ∙ take-length ((current s).log ++ events)))
        (loses i k here p there within before owns (are_in i here there))

    grows : (i : ℕ) (here : Lease) → s.live i ≡ Some here → Grows (written s s.epoch new s.epoch) s.epoch i (s.sessions i here.session).promises
    grows i here there = subst (λ y. Grows y s.epoch i (s.sessions i here.session).promises) (sym at)
        (λ b c k p had later low owner gives before.
        step i here there b c k p low owner gives before (Contains-push_cases (current s).lengths (length ((current s).log ++ events)) b had)
        (Contains-push_cases (current s).lengths (length ((current s).log ++ events)) c later))

    barren : (i : ℕ) (here : Lease) → s.live i ≡ Some here → (e : ℕ) → e < s.epoch → Barren (written s s.epoch new e) e i (s.sessions i here.session).promises
    barren i here there e low =
        subst (λ y. Barren y e i (s.sessions i here.session).promises) (sym (written_other s s.epoch new e (λ is. absurd (omega (arith, is, low))))) ((kept.fits i here there).barren e low)

-- The epoch ends.

-- the node owns nothing, or who holds a lease has promised the end of the log, keeping nothing
abbrev pub IsOut : Store → ℕ → Lease → Type 0
IsOut s i here = ((k : ℕ) → OwnsNow s i k → ⊥) ⊎ (here.promised ≡ nothing_in s.epoch (length (current s).log))

all_out : (s : Store) (e offset : ℕ) (silent : ℕ → Bool) (number : ℕ → ℕ) → AcceptsRollOver s e offset silent → MayRollOver s silent number → (i : ℕ) (here : Lease) → s.live i ≡ Some here → IsOut s i here
all_out s e offset silent number (same, end, accepts) (may, one) i here there = by_silent (silent i) refl
  where
    by_silent : (b : Bool) → silent i ≡ b → IsOut s i here
    by_silent true is = inl (λ k owns. may i k is owns)
    by_silent false is = inr (accepts i here there is ∙ ap (λ y. nothing_in y offset) same ∙ ap (λ y. nothing_in s.epoch y) end)

-- the holder of a lease works on nothing
idle : (s : Store) (i n : ℕ) (y : Piece) (here : IsLive s i n) → Keeps s → HasWork s i n y → IsOut s i (record { session = n; promised = here.0 }) → ⊥
idle s i n y here kept works (inl none) = none y.partition (kept.owned i n y here works).1
idle s i n y here kept works (inr is) =
    let epoch : here.0.epoch ≡ s.epoch = ap (λ (p : Promised). p.epoch) is in
    let offset : here.0.offset ≡ length (current s).log = ap (λ (p : Promised). p.offset) is in
    kept_none here.0 y.partition (ap (λ (p : Promised). p.kept) is)
    (told_keeps s i (record { session = n; promised = here.0 }) y kept here.1 works epoch (omega (arith, offset)))

no_plan : (setup : Setup) (number : ℕ → ℕ) (b i : ℕ) (p : Planned) → OwnerAt (new_epoch setup number) b i p → ⊥
no_plan setup number b i p owner =
    let low = (token_at (new_epoch setup number) b i p owner).1 in
    let counted = owner.last.counted in
    absurd (omega (arith, low, counted))

roll_over_keeps : (s : Store) (setup : Setup) (number : ℕ → ℕ) → IsOneToOne number → ((i : ℕ) (here : Lease) → s.live i ≡ Some here → IsOut s i here) → Keeps s → Keeps (rolled s setup number)
roll_over_keeps s setup number one are_out kept = record {
  one = λ f. one_in f (found_epoch s (s.epoch + 1) (new_epoch setup number) f);
  lengths = λ f b had. lengths f b had (found_epoch s (s.epoch + 1) (new_epoch setup number) f);
  end = subst (λ y. Contains y.lengths (length y.log)) (sym at) (Contains-push [] 0);
  kept = λ i n. let is = kept_stands s (s.epoch + 1) (s.epoch + 1) (new_epoch setup number) (omega arith) stands i n (kept.kept i n) in record { known = is.known; had = is.had; began = is.began; within = is.within };
  owned = λ i n y here works. absurd (idle s i n y here kept works (are_out i (record { session = n; promised = here.0 }) here.1));
  fits = λ i here there. let fit = kept.fits i here there in record { told = fit.told; grows = grows i here; barren = λ e low. barren i here there e low (grind arith); past = fit.past };
  last = all_weaker s.begun
      (λ g was. let is = was_stands s (s.epoch + 1) (s.epoch + 1) (new_epoch setup number) (omega arith) stands g was in record { long = is.long; within = is.within; had = is.had; known = is.known; number = is.number; owner = is.owner; gives = is.gives })
      kept.last;
  apart = kept.apart;
}
  where
    one_in : (f : ℕ) → FoundEpoch s (s.epoch + 1) (new_epoch setup number) f (written s (s.epoch + 1) (new_epoch setup number) f) → IsOneToOne (written s (s.epoch + 1) (new_epoch setup number) f).number
    one_in f (inl (e, found)) = subst (λ y. IsOneToOne y.number) (sym found) one
    one_in f (inr (d, found)) = subst (λ y. IsOneToOne y.number) (sym found) (kept.one f)

    at : written s (s.epoch + 1) (new_epoch setup number) (s.epoch + 1) ≡ new_epoch setup number
    at = written_is s (s.epoch + 1) (new_epoch setup number)

    as_it_was : (f : ℕ) → f ≤ s.epoch → written s (s.epoch + 1) (new_epoch setup number) f ≡ s.epochs f
    as_it_was f low = written_other s (s.epoch + 1) (new_epoch setup number) f (λ is. absurd (omega (arith, is, low)))

    stands : (f : ℕ) → f ≤ s.epoch → Stands (s.epochs f) (written s (s.epoch + 1) (new_epoch setup number) f)
    stands f low = subst (Stands (s.epochs f)) (sym (as_it_was f low)) (stands_same (s.epochs f))

    zero_only : (b : ℕ) → Contains {X = ℕ} [] b ⊎ (0 ≡ b) → b ≤ 0
    zero_only b (inl is) = absurd (none_in b is)
    zero_only b (inr e) = omega (arith, e)

    lengths : (f b : ℕ) → Contains (written s (s.epoch + 1) (new_epoch setup number) f).lengths b → FoundEpoch s (s.epoch + 1) (new_epoch setup number) f (written s (s.epoch + 1) (new_epoch setup number) f)
        → b ≤ length (written s (s.epoch + 1) (new_epoch setup number) f).log
    lengths f b had (inl (e, found)) = subst (λ y. b ≤ length y.log) (sym found) (zero_only b (Contains-push_cases [] 0 b (subst (λ y. Contains y.lengths b) found had)))
    lengths f b had (inr (d, found)) = subst (λ y. b ≤ length y.log) (sym found) (kept.lengths f b (subst (λ y. Contains y.lengths b) found had))

    grows : (i : ℕ) (here : Lease) → Grows (written s (s.epoch + 1) (new_epoch setup number) (s.epoch + 1)) (s.epoch + 1) i (s.sessions i here.session).promises
    grows i here = subst (λ y. Grows y (s.epoch + 1) i (s.sessions i here.session).promises) (sym at) (λ b c k p had later low owner gives before. absurd (no_plan setup number b i p owner))

    -- nor may it begin by what was current
    ended : (i : ℕ) (here : Lease) → s.live i ≡ Some here → IsOut s i here → Barren (current s) s.epoch i (s.sessions i here.session).promises
    ended i here there (inl none) b k p had owner gives before =
        none k (owns_whole (current s) i k ((kept.fits i here there).grows b (length (current s).log) k p had kept.end (kept.lengths s.epoch b had) owner gives before))
    ended i here there (inr is) b k p had owner gives before =
        let within = (token_at (current s) b i p owner).1 in
        let epoch : here.promised.epoch ≡ s.epoch = ap (λ (p : Promised). p.epoch) is in
        let offset : here.promised.offset ≡ length (current s).log = ap (λ (p : Promised). p.offset) is in
        clash here.promised.epoch here.promised.offset s.epoch p.token (before here.promised (kept.fits i here there).told) (inr (sym epoch, omega (arith, within, offset)))

    barren : (i : ℕ) (here : Lease) → s.live i ≡ Some here → (e : ℕ) → e < s.epoch + 1 → (e < s.epoch) ⊎ (s.epoch ≤ e) → Barren (written s (s.epoch + 1) (new_epoch setup number) e) e i (s.sessions i here.session).promises
    barren i here there e low (inl less) = subst (λ y. Barren y e i (s.sessions i here.session).promises) (sym (as_it_was e (omega (arith, less)))) ((kept.fits i here there).barren e less)
    barren i here there e low (inr high) =
        let same : e ≡ s.epoch = omega (arith, low, high) in
        subst (λ y. Barren y e i (s.sessions i here.session).promises) (sym (as_it_was e (omega (arith, same))))
        (subst (λ f. Barren (s.epochs f) f i (s.sessions i here.session).promises) (sym same) (ended i here there (are_out i here there)))

pub does_keeps : (s : Store) (act : Act) (s' : Store) → Does s act s' → Keeps s → Keeps s'
does_keeps s (Append e offset silent seen events) s' (accepts, may, becomes) kept = rw becomes (append_keeps s events (all_in s e offset silent seen events accepts may) kept)
does_keeps s (RollOver e offset silent setup number) s' (accepts, may, becomes) kept = rw becomes (roll_over_keeps s setup number may.1 (all_out s e offset silent number accepts may) kept)
does_keeps s (Acquire i n e offset) s' ((nobody, same, end), made, becomes) kept = rw becomes (acquire_keeps s i n e offset same end made kept)
does_keeps s (Yield i n promised) s' (here, made, becomes) kept = rw becomes (yield_keeps s i n promised here made kept)
does_keeps s (End i) s' becomes kept = rw becomes (end_keeps s i kept)
does_keeps s (Learn i n e offset) s' (had, rises, becomes) kept = rw becomes (learn_keeps s i n e offset had.0 had.1 rises kept)
does_keeps s (Promise i n promised) s' (may, becomes) kept = rw becomes (promise_keeps s i n promised may kept)
does_keeps s (Begin i n x) s' (may, becomes) kept = rw becomes (begin_keeps s i n x may kept)
does_keeps s (Stop i n left) s' (may, becomes) kept = rw becomes (stop_keeps s i n left may kept)

pub first_keeps : (setup : Setup) (number : ℕ → ℕ) → IsOneToOne number → Keeps (first_store setup number)
first_keeps setup number one = record {
  one = λ e. one;
  lengths = λ e b had. at_first b (Contains-push_cases [] 0 b had);
  end = Contains-push [] 0;
  kept = λ i n. record { known = omega arith; had = Contains-push [] 0; began = λ x is. absurd (none_in x is); within = λ x p is made far. absurd (none_in x is) };
  owned = λ i n x here is. absurd (none_in x is);
  fits = λ i here there. absurd (no_lease None here refl there);
  last = tt;
  apart = tt;
}
  where
    at_first : (b : ℕ) → Contains {X = ℕ} [] b ⊎ (0 ≡ b) → b ≤ 0
    at_first b (inl is) = absurd (none_in b is)
    at_first b (inr e) = omega (arith, e)

pub become_keeps : (s : Store) (acts : List Act) (s' : Store) → Become s acts s' → Keeps s → Keeps s'
become_keeps s [] s' is kept = rw is kept
become_keeps s (act ∷ acts) s' is kept = become_keeps is.0 acts s' is.2 (does_keeps s act is.0 is.1 kept)

pub store_keeps : (acts : List Act) (s : Store) → IsReached acts s → Keeps s
store_keeps acts s is = become_keeps (first_store is.setup is.number) acts s is.become (first_keeps is.setup is.number is.one)

pub owner_lem : (acts : List Act) (s : Store) (i n : ℕ) (x : Piece) → IsReached acts s → IsAtWork s i n x
    → (x.epoch ≡ s.epoch) × (is : OwnsNow s i x.partition) × GoesBy is.owner.world ((current s).number i) is.plan
owner_lem acts s i n x become works =
    let is = (store_keeps acts s become).owned i n x works.live works.work in
    (is.0, is.1, goes_by (current s).setup (current s).log ((current s).number i) is.1.plan is.1.owner)

pub told_lem : (acts : List Act) (s : Store) (i : ℕ) (here : Lease) (x : Piece) → IsReached acts s → s.live i ≡ Some here → HasWork s i here.session x → here.promised.epoch ≡ s.epoch
    → length (current s).log ≤ here.promised.offset → Contains here.promised.kept x.partition
told_lem acts s i here x become there works epoch end = told_keeps s i here x (store_keeps acts s become) there works epoch end

-- no live session works where an epoch is rolled over
pub rolls_lem : (acts : List Act) (s s' : Store) (i n : ℕ) (x : Piece) (e offset : ℕ) (silent : ℕ → Bool) (next : Setup) (number : ℕ → ℕ) → IsReached acts s → IsAtWork s i n x
    → Does s (RollOver e offset silent next number) s' → ⊥
rolls_lem acts s s' i n x e offset silent next number become works (accepts, may, becomes) =
    idle s i n x works.live (store_keeps acts s become) works.work (all_out s e offset silent number accepts may i (record { session = n; promised = works.live.0 }) works.live.1)

pub one_life : (s : Store) (i j n m k l : ℕ) → IsOneToOne (current s).number → OwnsNow s i k → OwnsNow s j l → k ≡ l → IsLive s i n → IsLive s j m → (i ≡ j) × (n ≡ m)
one_life s i j n m k l one a b e here there =
    let plan : a.plan ≡ b.plan = one_last (current s).log a.plan b.plan a.owner.last b.owner.last in
    let node : i ≡ j = one i j (one_owner a.plan.table b.plan.table ((current s).number i) ((current s).number j) l (ap (λ (p : Planned). p.table) plan) (subst (λ y. GivesTo a.plan.table y ((current s).number i)) e a.gives) b.gives) in
    let same = one_lease (record { session = n; promised = here.0 }) (record { session = m; promised = there.0 }) here.1 (ap s.live node ∙ there.1) in
    (node, ap (λ (p : Lease). p.session) same)

pub now_lem : (acts : List Act) (s : Store) (i j n m : ℕ) (x y : Piece) → IsReached acts s → IsAtWork s i n x → IsAtWork s j m y → x.partition ≡ y.partition → (i ≡ j) × (n ≡ m)
now_lem acts s i j n m x y become here there same =
    let kept = store_keeps acts s become in
    one_life s i j n m x.partition y.partition (kept.one s.epoch) (kept.owned i n x here.live here.work).1 (kept.owned j m y there.live there.work).1 same here.live there.live

pub begins_lem : (acts : List Act) (s s' : Store) (i j n m : ℕ) (x y : Piece) → IsReached acts s → HasWork s i n x → Does s (Begin j m y) s' → x.partition ≡ y.partition → IsSameOrOver s i n x j m y
begins_lem acts s s' i j n m x y become works (may, becomes) same = by_case (grind arith) (grind arith)
  where
    kept : Keeps s
    kept = store_keeps acts s become

    apart : IsApart (begun_by j m y) (begun_by i n x)
    apart = all_among (IsApart (begun_by j m y)) s.begun (begun_by i n x) (begin_apart s j m y may kept) ((kept.kept i n).began x works)

    rises : ((i ≡ j) × (n ≡ m) → ⊥) → IsApartIn (record { name = j; session = m; piece = y }) (record { name = i; session = n; piece = x }) → (x.plan.token ≡ y.plan.token) ⊎ (x.plan.token ≢ y.plan.token)
        → x.plan.token < y.plan.token
    rises other is (inl e) = absurd (other (is.begun e same))
    rises other is (inr d) = let low = is.rises same in omega (arith, low, d)

    is_lower : ((i ≡ j) × (n ≡ m) → ⊥) → IsApart (begun_by j m y) (begun_by i n x) → IsLower x y
    is_lower other (inl low) = inl low
    is_lower other (inr (e, is)) = inr (e, rises other is (grind arith))

    over : ((i ≡ j) × (n ≡ m) → ⊥) → IsSameOrOver s i n x j m y
    over other = inr (λ here. other (one_life s i j n m x.partition y.partition (kept.one s.epoch) (kept.owned i n x here works).1 (begin_owns s j m y may kept).1 same here may.live), is_lower other apart)

    by_case : (i ≡ j) ⊎ (i ≢ j) → (n ≡ m) ⊎ (n ≢ m) → IsSameOrOver s i n x j m y
    by_case (inl e) (inl f) = inl (e, f)
    by_case (inr d) f = over (λ is. d is.0)
    by_case (inl e) (inr d) = over (λ is. d is.1)

pub ever_lem : (acts : List Act) (s : Store) → IsReached acts s → AreApart s.begun
ever_lem acts s is = (store_keeps acts s is).apart

-- A promise reaches the plan, or all stand before it.

order : (e a f b : ℕ) → Reach e a f b ⊎ Before e a f b
order e a f b = by_epoch (grind arith) (grind arith)
  where
    by_place : e ≡ f → (b ≤ a) ⊎ (a < b) → Reach e a f b ⊎ Before e a f b
    by_place same (inl far) = inl (inr (sym same, far))
    by_place same (inr low) = inr (inr (same, low))

    by_epoch : (f < e) ⊎ (e ≤ f) → (e < f) ⊎ (f ≤ e) → Reach e a f b ⊎ Before e a f b
    by_epoch (inl less) rest = inl (inl less)
    by_epoch (inr low) (inl less) = inr (inl less)
    by_epoch (inr low) (inr high) = by_place (omega (arith, low, high)) (grind arith)

pub reaches_or : (made : List Promised) (e t : ℕ) → Reaches made e t ⊎ AreBefore made e t
reaches_or [] e t = inr (λ p is. absurd (none_in p is))
reaches_or (q ∷ made) e t = by_case (order q.epoch q.offset e t) (reaches_or made e t)
  where
    before : Before q.epoch q.offset e t → AreBefore made e t → (p : Promised) → Contains (q ∷ []) p ⊎ Contains made p → Before p.epoch p.offset e t
    before low rest p (inr is) = rest p is
    before low rest p (inl is) = first (Contains-push_cases [] q p is)
      where
        first : Contains {X = Promised} [] p ⊎ (q ≡ p) → Before p.epoch p.offset e t
        first (inl is) = absurd (none_in p is)
        first (inr same) = subst (λ (x : Promised). Before x.epoch x.offset e t) same low

    by_case : Reach q.epoch q.offset e t ⊎ Before q.epoch q.offset e t → Reaches made e t ⊎ AreBefore made e t → Reaches (q ∷ made) e t ⊎ AreBefore (q ∷ made) e t
    by_case (inl far) rest = inl (record { promised = q; is = Contains-append_left (q ∷ []) made q (Contains-push [] q); far = far })
    by_case (inr low) (inl r) = inl (record { promised = r.promised; is = Contains-append_right (q ∷ []) made r.promised r.is; far = r.far })
    by_case (inr low) (inr rest) = inr (λ p is. before low rest p (Contains-append_cases (q ∷ []) made p is))

-- a promise that reaches the plan keeps the partition
pub kept_by : (s : Store) (i n : ℕ) (x : Piece) → Keeps s → HasWork s i n x → Reaches (s.sessions i n).promises x.epoch x.plan.token → HasKept (s.sessions i n) x
kept_by s i n x kept works r = record { promised = r.promised; made = r.is; behind = r.far; kept = (kept.kept i n).within x r.promised works r.is r.far }

pub plan_lem : (acts : List Act) (s : Store) (i n : ℕ) (x : Piece) → IsReached acts s → IsAtWork s i n x → HasKept (s.sessions i n) x ⊎ IsLeft s i (s.sessions i n) x
plan_lem acts s i n x become works = by_case (reaches_or (s.sessions i n).promises x.epoch x.plan.token)
  where
    kept : Keeps s
    kept = store_keeps acts s become

    was : WasOwner s (begun_by i n x)
    was = was_of s i n x kept works.work

    now : x.epoch ≡ s.epoch
    now = (kept.owned i n x works.live works.work).0

    by_case : Reaches (s.sessions i n).promises x.epoch x.plan.token ⊎ AreBefore (s.sessions i n).promises x.epoch x.plan.token → HasKept (s.sessions i n) x ⊎ IsLeft s i (s.sessions i n) x
    by_case (inl r) = inl (kept_by s i n x kept works.work r)
    by_case (inr before) = inr (record {
      since = before;
      whole = λ k gives.
          let had : Contains (current s).lengths was.long = subst (λ e. Contains (s.epochs e).lengths was.long) now was.had in
          owns_whole (current s) i k
          ((kept.fits i (record { session = n; promised = works.live.0 }) works.live.1).grows was.long (length (current s).log) k x.plan had kept.end (kept.lengths s.epoch was.long had)
          (subst (λ e. OwnerAt (s.epochs e) was.long i x.plan) now was.owner) (subst (λ j. GivesTo x.plan.table k j) (was.number ∙ ap (λ e. (s.epochs e).number i) now) gives) (subst (λ e. AreBefore (s.sessions i n).promises e x.plan.token) now before));
    })
