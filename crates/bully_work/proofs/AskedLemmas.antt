-- The law where everybody is asked, and where nothing is ever kept.
use Rattle.std.proofs.Common.{◌≡◌, ◌<◌, ◌≤◌, ◌+◌, ◌++◌, ◌⊎◌, inl, inr, ℕ, Bool, true, false, List, [], ◌∷◌, Option, Some, None, length, take, Contains, arith, refl, sym, ap, subst, ◌∙◌}
use Rattle.std.proofs.Math.Seq.{take-length}
use Rattle.std.proofs.lemmas.List.Elements.{Contains-append_left, Contains-push_cases}
use Rattle.std.specs.List.{AllByRecursion}
use Rattle.bully_agree.proofs.PlanLemmas.{one_last}
use Rattle.bully_agree.specs.Fencing.{GoesBy, IsLastPlan}
use Rattle.bully_agree.specs.Runs.{CanRun}
use Rattle.bully_base.specs.Setup.{Setup}
use Rattle.bully_calls.specs.declared.event.Event.{Event}
use Rattle.bully_work.proofs.StoreLemmas.{AreBefore, AreIn, BeginsBy, Found, IsAsked, Keeps, Reach, Reaches, Sessions, WasOwner, after, begins_by, begun_by, clash, does_keeps, first_keeps, goes_by, grown, is_asked, kept_by, kept_none, live, no_lease, none_in, one_lease, one_life, reaches_more, reaches_or, rise_at, sessions, store_keeps, token_at, told_keeps, was_of, written_is}
use Rattle.bully_work.specs.Store.{Act, Append, RollOver, Acquire, Yield, End, Learn, Promise, Begin, Stop, AcceptsAppend, AcceptsRollOver, AllAsked, AllIdle, AllRise, AsksAll, Become, Begun, Does, Epoch, HasKept, IsAtWork, IsBehind, IsLive, IsOneToOne, IsOwner, IsReached, IsUpToDate, KeepsNothing, Lease, MayAppend, MayBegin, NoneSilent, Piece, Promised, Session, Store, begins, current, first_store, longer, new_epoch, nobody, none_silent, nothing_in, rolled, with_lease, with_session}
use Rattle.bully_work.specs.Working.{GivesTo}

-- the log of this epoch has been no longer than these promises reach, except for its length now
abbrev pub TightIn : Epoch → ℕ → List Promised → Type 0
TightIn x e made = (b : ℕ) → Contains x.lengths b → Reaches made e b ⊎ (b ≡ length x.log)

pub record Tight (s : Store) : Type 0 where
  pub whole : (i n : ℕ) → IsLive s i n → TightIn (current s) s.epoch (s.sessions i n).promises
  pub rise : AllRise s.begun

tight_more : (x : Epoch) (e : ℕ) (few many : List Promised) → AreIn few many → TightIn x e few → TightIn x e many
tight_more x e few many more tight b had = by_case (tight b had)
  where
    by_case : Reaches few e b ⊎ (b ≡ length x.log) → Reaches many e b ⊎ (b ≡ length x.log)
    by_case (inl r) = inl (reaches_more few many e b more r)
    by_case (inr end) = inr end

append_tight : (s : Store) (events : List Event) → ((i : ℕ) (here : Lease) → s.live i ≡ Some here → IsAsked s events i here) → Keeps s → Tight s → Tight (longer s events)
append_tight s events asked kept tight = record {
  whole = λ i n here. subst (λ y. TightIn y s.epoch (s.sessions i n).promises) (sym (written_is s s.epoch (grown (current s) events))) (whole i n here);
  rise = tight.rise;
}
  where
    by_case : (i n : ℕ) → IsLive s i n → (b : ℕ) → Contains (current s).lengths b ⊎ (length ((current s).log ++ events) ≡ b) → Reaches (s.sessions i n).promises s.epoch b ⊎ (b ≡ length ((current s).log ++ events))
    by_case i n here b (inr new) = inr (sym new)
    by_case i n here b (inl had) =
        let old = kept.lengths s.epoch b had in
        let is = asked i (record { session = n; promised = here.0 }) here.1 in
        let idle = is.idle in
        inl (record { promised = here.0; is = (kept.fits i (record { session = n; promised = here.0 }) here.1).told; far = inr (sym is.epoch, omega (arith, old, idle)) })

    whole : (i n : ℕ) → IsLive s i n → TightIn (grown (current s) events) s.epoch (s.sessions i n).promises
    whole i n here b had = by_case i n here b (Contains-push_cases (current s).lengths (length ((current s).log ++ events)) b had)

-- a new epoch's log has had no length but 0
rolled_tight : (s : Store) (setup : Setup) (number : ℕ → ℕ) → Tight s → Tight (rolled s setup number)
rolled_tight s setup number tight = record {
  whole = λ i n here. subst (λ y. TightIn y (s.epoch + 1) (s.sessions i n).promises) (sym (written_is s (s.epoch + 1) (new_epoch setup number))) (λ b had. inr (zero b (Contains-push_cases [] 0 b had)));
  rise = tight.rise;
}
  where
    zero : (b : ℕ) → Contains {X = ℕ} [] b ⊎ (0 ≡ b) → b ≡ 0
    zero b (inl is) = absurd (none_in b is)
    zero b (inr e) = sym e

abbrev pub given : ℕ → Promised → Option Lease
given n p = Some (record { session = n; promised = p })

lease_tight : (s : Store) (i : ℕ) (new : Option Lease) → ((n : ℕ) (p : Promised) → new ≡ given n p → TightIn (current s) s.epoch (s.sessions i n).promises) → Tight s → Tight (with_lease s i new)
lease_tight s i new is tight = record { whole = λ j m here. whole j m here (live s i new j); rise = tight.rise }
  where
    whole : (j m : ℕ) → IsLive (with_lease s i new) j m → Found s i new j ((with_lease s i new).live j) → TightIn (current s) s.epoch (s.sessions j m).promises
    whole j m here (inl (e, found)) = subst (λ y. TightIn (current s) s.epoch (s.sessions y m).promises) (sym e) (is m here.0 (sym found ∙ here.1))
    whole j m here (inr (d, found)) = tight.whole j m (here.0, sym found ∙ here.1)

some_tight : (s : Store) (i n : ℕ) (p : Promised) → TightIn (current s) s.epoch (s.sessions i n).promises → Tight s → Tight (with_lease s i (Some (record { session = n; promised = p })))
some_tight s i n p is tight = lease_tight s i (Some (record { session = n; promised = p })) new tight
  where
    new : (m : ℕ) (q : Promised) → given n p ≡ given m q → TightIn (current s) s.epoch (s.sessions i m).promises
    new m q e =
        let same = one_lease (record { session = n; promised = p }) (record { session = m; promised = q }) refl e in
        subst (λ x. TightIn (current s) s.epoch (s.sessions i x).promises) (ap (λ (x : Lease). x.session) same) is

session_tight : (s : Store) (i n : ℕ) (new : Session) → AreIn (s.sessions i n).promises new.promises → Tight s → Tight (with_session s i n new)
session_tight s i n new more tight = record { whole = λ j m here. whole j m here (sessions s i n new j m); rise = tight.rise }
  where
    whole : (j m : ℕ) → IsLive s j m → Sessions s i n new j m (after s i n new j m) → TightIn (current s) s.epoch (after s i n new j m).promises
    whole j m here (inl (e, f, found)) =
        let there : IsLive s i n = subst (λ y. IsLive s y n) e (subst (λ y. IsLive s j y) f here) in
        subst (λ (x : Session). TightIn (current s) s.epoch x.promises) (sym found) (tight_more (current s) s.epoch (s.sessions i n).promises new.promises more (tight.whole i n there))
    whole j m here (inr found) = subst (λ (x : Session). TightIn (current s) s.epoch x.promises) (sym found) (tight.whole j m here)

-- where nobody was silent, a length after all promises of a holder is that of the log
tight_end : (s : Store) (i n b token : ℕ) → Tight s → IsLive s i n → Contains (current s).lengths b → token ≤ b → AreBefore (s.sessions i n).promises s.epoch token → b ≡ length (current s).log
tight_end s i n b token tight here had low before = by_case (tight.whole i n here b had)
  where
    less : (e a : ℕ) → Reach e a s.epoch b → Reach e a s.epoch token
    less e a (inl later) = inl later
    less e a (inr (same, far)) = inr (same, omega (arith, far, low))

    by_case : Reaches (s.sessions i n).promises s.epoch b ⊎ (b ≡ length (current s).log) → b ≡ length (current s).log
    by_case (inl r) = absurd (clash r.promised.epoch r.promised.offset s.epoch token (before r.promised r.is) (less r.promised.epoch r.promised.offset r.far))
    by_case (inr end) = end

one_behind : (s : Store) (b : ℕ) (x : Begun) (g : Begun) → x.piece.epoch ≡ s.epoch → b ≡ length (current s).log → ((c : ℕ) → Contains (current s).lengths c → c ≤ length (current s).log) → IsLastPlan (take b (current s).log) x.piece.plan
    → WasOwner s g → IsBehind x g
one_behind s b x g now end had last was = by_case (grind arith)
  where
    by_case : (g.piece.epoch < s.epoch) ⊎ (s.epoch ≤ g.piece.epoch) → IsBehind x g
    by_case (inl low) = inl (omega (arith, low, now))
    by_case (inr high) =
        let within = was.within in
        let here : g.piece.epoch ≡ s.epoch = omega (arith, within, high) in
        let old = had was.long (subst (λ e. Contains (s.epochs e).lengths was.long) here was.had) in
        let first : IsOwner (current s).setup (take was.long (current s).log) ((current s).number g.name) g.piece.plan = subst (λ e. IsOwner (s.epochs e).setup (take was.long (s.epochs e).log) ((s.epochs e).number g.name) g.piece.plan) here was.owner in
        inr (here ∙ sym now, (rise_at (current s).log was.long b g.piece.plan x.piece.plan (omega (arith, old, end)) first.last last).0)

all_behind : (s : Store) (b : ℕ) (x : Begun) (gs : List Begun) → x.piece.epoch ≡ s.epoch → b ≡ length (current s).log → ((c : ℕ) → Contains (current s).lengths c → c ≤ length (current s).log) → IsLastPlan (take b (current s).log) x.piece.plan
    → AllByRecursion (WasOwner s) gs → AllByRecursion (IsBehind x) gs
all_behind s b x [] now end had last was = tt
all_behind s b x (g ∷ gs) now end had last was = (one_behind s b x g now end had last was.0, all_behind s b x gs now end had last was.1)

begin_tight : (s : Store) (i n : ℕ) (x : Piece) → MayBegin s i n x → Keeps s → Tight s → Tight (begins s i n x)
begin_tight s i n x may kept tight =
    session_tight (record s { begun = begun_by i n x ∷ s.begun }) i n (record (s.sessions i n) { work = (s.sessions i n).work ++ x ∷ [] }) (λ p made. made)
    (record { whole = λ j m here. tight.whole j m here; rise = (behind, tight.rise) })
  where
    by : BeginsBy s i n x
    by = begins_by s i n x may kept

    end : (s.sessions i n).learned ≡ length (current s).log
    end = tight_end s i n (s.sessions i n).learned x.plan.token tight may.live by.had (token_at (current s) (s.sessions i n).learned i x.plan by.owner).0 by.behind

    behind : AllByRecursion (IsBehind (begun_by i n x)) s.begun
    behind = all_behind s (s.sessions i n).learned (begun_by i n x) s.begun by.now end (kept.lengths s.epoch) by.owner.last kept.last

does_tight : (s : Store) (act : Act) (s' : Store) → Does s act s' → AsksAll act → Keeps s → Tight s → Tight s'
does_tight s (Append e offset silent seen events) s' (accepts, may, becomes) none kept tight =
    rw becomes (append_tight s events (λ i here there. is_asked s e offset silent seen events accepts may i here there (none i)) kept tight)
does_tight s (RollOver e offset silent setup number) s' (accepts, may, becomes) none kept tight = rw becomes (rolled_tight s setup number tight)
does_tight s (Acquire i n e offset) s' ((nobody, same, end), made, becomes) none kept tight = rw becomes (some_tight s i n (nothing_in e offset) reaches tight)
  where
    reaches : TightIn (current s) s.epoch (s.sessions i n).promises
    reaches b had = let low = kept.lengths s.epoch b had in inl (record { promised = nothing_in e offset; is = made; far = inr (sym same, omega (arith, low, end)) })
does_tight s (Yield i n promised) s' (here, made, becomes) none kept tight = rw becomes (some_tight s i n promised (tight.whole i n here) tight)
does_tight s (End i) s' becomes none kept tight = rw becomes (lease_tight s i None (λ n p e. absurd (no_lease None (record { session = n; promised = p }) refl e)) tight)
does_tight s (Learn i n e offset) s' (had, rises, becomes) none kept tight = rw becomes (session_tight s i n (record (s.sessions i n) { epoch = e; learned = offset }) (λ p made. made) tight)
does_tight s (Promise i n promised) s' (may, becomes) none kept tight =
    rw becomes (session_tight s i n (record (s.sessions i n) { promises = (s.sessions i n).promises ++ promised ∷ [] }) (λ p made. Contains-append_left (s.sessions i n).promises (promised ∷ []) p made) tight)
does_tight s (Begin i n x) s' (may, becomes) none kept tight = rw becomes (begin_tight s i n x may kept tight)
does_tight s (Stop i n left) s' (may, becomes) none kept tight = rw becomes (session_tight s i n (record (s.sessions i n) { work = left }) (λ p made. made) tight)

become_tight : (s : Store) (acts : List Act) (s' : Store) → Become s acts s' → AllAsked acts → Keeps s → Tight s → Tight s'
become_tight s [] s' is asked kept tight = rw is tight
become_tight s (act ∷ acts) s' is asked kept tight = become_tight is.0 acts s' is.2 asked.1 (does_keeps s act is.0 is.1 kept) (does_tight s act is.0 is.1 asked.0 kept tight)

store_tight : (acts : List Act) (s : Store) → IsReached acts s → AllAsked acts → Tight s
store_tight acts s is asked =
    become_tight (first_store is.setup is.number) acts s is.become asked (first_keeps is.setup is.number is.one) (record { whole = λ i n here. absurd (no_lease None (record { session = n; promised = here.0 }) refl here.1); rise = tt })

pub asked_plan_lem : (acts : List Act) (s : Store) (i n : ℕ) (x : Piece) → IsReached acts s → AllAsked acts → IsAtWork s i n x → IsUpToDate s (s.sessions i n) x ⊎ HasKept (s.sessions i n) x
asked_plan_lem acts s i n x become asked works = by_case (reaches_or (s.sessions i n).promises x.epoch x.plan.token)
  where
    kept : Keeps s
    kept = store_keeps acts s become

    tight : Tight s
    tight = store_tight acts s become asked

    was : WasOwner s (begun_by i n x)
    was = was_of s i n x kept works.work

    now : x.epoch ≡ s.epoch
    now = (kept.owned i n x works.live works.work).0

    had : Contains (current s).lengths was.long
    had = subst (λ e. Contains (s.epochs e).lengths was.long) now was.had

    owner : IsOwner (current s).setup (take was.long (current s).log) ((current s).number i) x.plan
    owner = subst (λ e. IsOwner (s.epochs e).setup (take was.long (s.epochs e).log) ((s.epochs e).number i) x.plan) now was.owner

    low : x.plan.token ≤ was.long
    low = (token_at (current s) was.long i x.plan owner).0

    knows : Reach (s.sessions i n).epoch (s.sessions i n).learned x.epoch was.long → ((s.sessions i n).epoch ≡ s.epoch) × (was.long ≤ (s.sessions i n).learned)
    knows (inl later) = let known = (kept.kept i n).known in absurd (omega (arith, later, known, now))
    knows (inr (same, far)) = (sym same ∙ now, far)

    known : ((s.sessions i n).epoch ≡ s.epoch) × (was.long ≤ (s.sessions i n).learned)
    known = knows was.known

    up_to_date : AreBefore (s.sessions i n).promises s.epoch x.plan.token → IsUpToDate s (s.sessions i n) x
    up_to_date before =
        let end = tight_end s i n was.long x.plan.token tight works.live had low before in
        let far = known.1 in
        let there : Contains (current s).lengths (s.sessions i n).learned = subst (λ e. Contains (s.epochs e).lengths (s.sessions i n).learned) known.0 (kept.kept i n).had in
        record {
          now = now;
          epoch = known.0;
          learned = tight_end s i n (s.sessions i n).learned x.plan.token tight works.live there (omega (arith, low, far)) before;
          last = subst (λ events. IsLastPlan events x.plan) (ap (λ b. take b (current s).log) end ∙ take-length (current s).log) owner.last;
        }

    by_case : Reaches (s.sessions i n).promises x.epoch x.plan.token ⊎ AreBefore (s.sessions i n).promises x.epoch x.plan.token → IsUpToDate s (s.sessions i n) x ⊎ HasKept (s.sessions i n) x
    by_case (inl r) = inr (kept_by s i n x kept works.work r)
    by_case (inr before) = inl (up_to_date (subst (λ e. AreBefore (s.sessions i n).promises e x.plan.token) now before))

pub asked_ever_lem : (acts : List Act) (s : Store) → IsReached acts s → AllAsked acts → AllRise s.begun
asked_ever_lem acts s is asked = (store_tight acts s is asked).rise

-- Eager.

-- a session that has kept nothing works by the last plan
up_to_date : (acts : List Act) (s : Store) (i n : ℕ) (x : Piece) → IsReached acts s → AllAsked acts → KeepsNothing s → IsAtWork s i n x → IsUpToDate s (s.sessions i n) x
up_to_date acts s i n x become asked nothing works = by_case (asked_plan_lem acts s i n x become asked works)
  where
    by_case : IsUpToDate s (s.sessions i n) x ⊎ HasKept (s.sessions i n) x → IsUpToDate s (s.sessions i n) x
    by_case (inl is) = is
    by_case (inr is) = absurd (kept_none is.promised x.partition (nothing i n is.promised is.made) is.kept)

pub eager_owner_lem : (acts : List Act) (s : Store) (i n : ℕ) (x : Piece) → IsReached acts s → AllAsked acts → KeepsNothing s → IsAtWork s i n x
    → IsUpToDate s (s.sessions i n) x × (is : IsOwner (current s).setup (current s).log ((current s).number i) x.plan) × GoesBy is.world ((current s).number i) x.plan
eager_owner_lem acts s i n x become asked nothing works =
    let is = up_to_date acts s i n x become asked nothing works in
    let owns = ((store_keeps acts s become).owned i n x works.live works.work).1 in
    let same : owns.plan ≡ x.plan = one_last (current s).log owns.plan x.plan owns.owner.last is.last in
    let owner : IsOwner (current s).setup (current s).log ((current s).number i) x.plan = subst (IsOwner (current s).setup (current s).log ((current s).number i)) same owns.owner in
    (is, owner, goes_by (current s).setup (current s).log ((current s).number i) x.plan owner)

pub eager_still_lem : (acts : List Act) (s s' : Store) (i n : ℕ) (x : Piece) (e offset : ℕ) (silent : ℕ → Bool) (seen : ℕ → Option Lease) (events : List Event) → IsReached acts s → KeepsNothing s → IsAtWork s i n x → NoneSilent silent
    → Does s (Append e offset silent seen events) s' → ⊥
eager_still_lem acts s s' i n x e offset silent seen events become nothing works none (accepts, may, becomes) =
    let kept = store_keeps acts s become in
    let here = works.live in
    let asked = is_asked s e offset silent seen events accepts may i (record { session = n; promised = here.0 }) here.1 (none i) in
    let idle = asked.idle in
    let told = (kept.fits i (record { session = n; promised = here.0 }) here.1).told in
    kept_none here.0 x.partition (nothing i n here.0 told)
    (told_keeps s i (record { session = n; promised = here.0 }) x kept here.1 works.work asked.epoch (omega (arith, idle)))

pub eager_now_lem : (acts : List Act) (s : Store) (i j n m : ℕ) (x y : Piece) → IsReached acts s → AllAsked acts → KeepsNothing s → IsAtWork s i n x → IsAtWork s j m y
    → (x.plan ≡ y.plan) × ((k : ℕ) → GivesTo x.plan.table k ((current s).number i) → GivesTo y.plan.table k ((current s).number j) → (i ≡ j) × (n ≡ m))
eager_now_lem acts s i j n m x y become asked nothing here there = (plan, one)
  where
    mine : (is : IsOwner (current s).setup (current s).log ((current s).number i) x.plan) × GoesBy is.world ((current s).number i) x.plan
    mine = let is = eager_owner_lem acts s i n x become asked nothing here in (is.1, is.2)

    yours : (is : IsOwner (current s).setup (current s).log ((current s).number j) y.plan) × GoesBy is.world ((current s).number j) y.plan
    yours = let is = eager_owner_lem acts s j m y become asked nothing there in (is.1, is.2)

    plan : x.plan ≡ y.plan
    plan = one_last (current s).log x.plan y.plan mine.0.last yours.0.last

    one : (k : ℕ) → GivesTo x.plan.table k ((current s).number i) → GivesTo y.plan.table k ((current s).number j) → (i ≡ j) × (n ≡ m)
    one k gives other = one_life s i j n m k k ((store_keeps acts s become).one s.epoch) (record { plan = x.plan; owner = mine.0; gives = gives }) (record { plan = y.plan; owner = yours.0; gives = other }) refl here.live there.live

none_is : false ≡ true → ⊥
none_is e = cc

-- a writer that names nobody may append whatever is lawful
pub may_name_nobody : (s : Store) (e offset : ℕ) (events : List Event) → CanRun (current s).setup ((current s).log ++ events) → MayAppend s e offset none_silent nobody events
may_name_nobody s e offset events can = record {
  lawful = can;
  whole = λ i k silent. absurd (none_is silent);
  idle = λ i here asked is. absurd (no_lease None here refl is);
  kept = λ i k here asked is has. absurd (no_lease None here refl is);
}

pub eager_appends_lem : (s : Store) (events : List Event) → AllIdle s s.epoch (length (current s).log) → CanRun (current s).setup ((current s).log ++ events)
    → Does s (Append s.epoch (length (current s).log) none_silent nobody events) (longer s events)
eager_appends_lem s events idle can = ((refl, refl, λ i here is asked. inr (idle i here is)), may_name_nobody s s.epoch (length (current s).log) events can, refl)

pub eager_ends_lem : (s : Store) (setup : Setup) (number : ℕ → ℕ) → IsOneToOne number → AllIdle s s.epoch (length (current s).log) → Does s (RollOver s.epoch (length (current s).log) none_silent setup number) (rolled s setup number)
eager_ends_lem s setup number one idle = ((refl, refl, λ i here is asked. idle i here is), (λ i k silent. absurd (none_is silent), one), refl)

pub eager_idle_lem : (s : Store) (e offset : ℕ) → AcceptsAppend s e offset none_silent nobody ⊎ AcceptsRollOver s e offset none_silent → AllIdle s e offset
eager_idle_lem s e offset (inr accepts) i here there = accepts.2 i here there refl
eager_idle_lem s e offset (inl accepts) i here there = by_case (accepts.2 i here there refl)
  where
    by_case : (None ≡ Some here) ⊎ (here.promised ≡ nothing_in e offset) → here.promised ≡ nothing_in e offset
    by_case (inl is) = absurd (no_lease None here refl is)
    by_case (inr is) = is
