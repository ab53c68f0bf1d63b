-- The faults of a turn: found in the order of turns they are those of the document, and each is taken once.
use Rattle.std.proofs.Common.{◌≡◌, ◌≢◌, ◌∙◌, ℕ, ◌+◌, ◌<◌, ◌≤◌, ◌==◌, Bool, true, false, List, [], ◌∷◌, All, length, length-drop, drop, get_or, arith, refl, sym, ap, subst, ◌&&◌, not, cond, nat_lt, ltb-true, ltb-false, eq-eqb, ne_eqb, Bor}
use Rattle.std.proofs.lemmas.Fn.{always_returns_same}
use Rattle.std.proofs.lemmas.List.{get_or_default, get_or-drop}
use Rattle.std.proofs.lemmas.List.Elements.{All-tail}
use Rattle.std.specs.Bool.{MatchBool}
use Rattle.std.specs.List.{filter}
use Rattle.std.specs.List.Sorted.{IsStableByKeyClosure, IsNonDecreasingBy, ties}
use Rattle.std.specs.declared.cmp.Ordering.TheVariants.{Less, Equal, Greater}
use Rattle.std.specs.Ordering.{is_lt, nat_cmp}
use Rattle.std.specs.Fn.{Called}
use denote.Param.Members.{Mut}
use Rattle.bully_config.specs.declared.config.Fault.{Fault}
use Rattle.bully_config.specs.declared.config.FaultKind.{FaultKind}
use Rattle.bully_play.specs.Play.{event_of_fault}
use Rattle.bully_play.specs.Schedule.{turn_of, faults_in, AreLeft}
use Rattle.bully_play.specs.Turns.{OperatesOn}
use Rattle.bully_calls.specs.declared.event.Event.{Event}

filter_same : {X : Type 0} (p q : X → Bool) (xs : List X) → ((x : X) → p x ≡ q x) → filter p xs ≡ filter q xs
filter_same p q [] same = refl
filter_same {X} p q (x ∷ xs) same = rw (same x) (ap (λ (rest : List X). cond (q x) (x ∷ rest) rest) (filter_same p q xs same))

-- two numbers tie where neither is below the other
ties_by : (p q r s : Bool) → (p ≡ true → s ≡ false) → (q ≡ true → s ≡ false) → (p ≡ false → q ≡ false → s ≡ true) → (not (is_lt (cond p Less (cond r Equal Greater))) && not (is_lt (cond q Less (cond s Equal Greater)))) ≡ s
ties_by true q r s low high same = sym (low refl)
ties_by false true true s low high same = sym (high refl)
ties_by false true false s low high same = sym (high refl)
ties_by false false true true low high same = refl
ties_by false false false true low high same = refl
ties_by false false true false low high same = sym (same refl refl)
ties_by false false false false low high same = sym (same refl refl)

other_turn : (a b : ℕ) → a ≢ b → (a == b) ≡ false
other_turn a b other = ne_eqb a b other

same_turn : (a b : ℕ) → a ≡ b → (a == b) ≡ true
same_turn a b same = eq-eqb a b same

ties_same : (a b : ℕ) → (not (is_lt (nat_cmp a b)) && not (is_lt (nat_cmp b a))) ≡ (b == a)
ties_same a b =
    ties_by (nat_lt a b) (nat_lt b a) (a == b) (b == a) (λ e. other_turn b a (λ f. absurd (omega (arith, ltb-true a b e, f)))) (λ e. other_turn b a (λ f. absurd (omega (arith, ltb-true b a e, f))))
    (λ e f. same_turn b a (omega (arith, ltb-false a b e, ltb-false b a f)))

-- a stable sort by the turn keeps the order in each turn
pub sorted_left : {F : Type 0} {g : Mut F (Bor Fault × Unit {0}) ℕ} {f : F} (faults sorted : List Fault) → IsStableByKeyClosure g nat_cmp f faults sorted
    → ((a : Bor Fault × Unit {0}) (r : ℕ) (f' : F) → Called g f a r f' → (r ≡ turn_of a.0.now) × (f' ≡ f)) → (number : ℕ) → AreLeft faults number sorted
sorted_left {g = g} {f = f} faults sorted stable reads number k within =
    let of_turn : Fault = record { at = k; node = 1; kind = FaultKind.Crash } in
    let before : Fault → Fault → Bool = λ (x y : Fault). is_lt (nat_cmp (turn_of x) (turn_of y)) in
    let is_due : Fault → Bool = λ (fault : Fault). fault.at == k in
    let same : (fault : Fault) → ties before of_turn fault ≡ is_due fault = λ (fault : Fault). ties_same k fault.at in
    let stays : filter (ties before of_turn) sorted ≡ filter (ties before of_turn) faults = stable turn_of (always_returns_same g (λ a r. r ≡ turn_of a.0.now) f reads) of_turn in
    sym (filter_same (ties before of_turn) is_due sorted same) ∙ (stays ∙ filter_same (ties before of_turn) is_due faults same)

-- no fault is left whose turn comes before that of the next one
pub all_later : (faults : List Fault) (next turn : ℕ) (fault : Fault) → IsNonDecreasingBy turn_of faults → next < length faults → fault ≡ get_or faults next fault → turn < fault.at → All (λ (f : Fault). turn < f.at) (drop next faults)
all_later faults next turn fault up below is later k d low =
    let within : next + k < length faults = omega (arith, length-drop next faults, low) in
    let there : fault ≡ get_or faults next d = is ∙ get_or_default faults next fault d below in
    let rises : turn_of (get_or faults next d) ≤ turn_of (get_or faults (next + k) d) = up next (next + k) d (omega arith) within in
    let same : get_or (drop next faults) k d ≡ get_or faults (next + k) d = get_or-drop next faults k d in
    subst (λ (f : Fault). turn < f.at) (sym same) (omega (arith, later, rises, ap turn_of there))

-- where each comes later, none is due
pub none_in : (turn k : ℕ) (left : List Fault) → k ≤ turn → All (λ (f : Fault). turn < f.at) left → faults_in k left ≡ []
none_in turn k [] within all = refl
none_in turn k (f ∷ left) within all =
    let head : turn < f.at = all 0 f (omega arith) in
    let other : (f.at == k) ≡ false = other_turn f.at k (λ e. absurd (omega (arith, head, within, e))) in
    rw other (none_in turn k left within (All-tail (λ (f : Fault). turn < f.at) f left all))

module _ {S : Type 0} (applies : Event → S → S → Type 0) (number : ℕ) where
  -- the events of these faults, one after the other
  abbrev AppliesAll : List Fault → S → S → Type 0
  AppliesAll [] before after = after ≡ before
  AppliesAll (fault ∷ faults) before after = (mid : S) × applies (event_of_fault fault) before mid × AppliesAll faults mid after

  to_all : (faults : List Fault) (before after : S) → OperatesOn applies number faults before after → AppliesAll (faults_in number faults) before after
  to_all [] before after does = does
  to_all (fault ∷ faults) before after does = by_turn (fault.at == number) does (λ mid rest. to_all faults mid after rest)
    where
      by_turn : (b : Bool) → MatchBool b ((mid : S) × applies (event_of_fault fault) before mid × OperatesOn applies number faults mid after) (OperatesOn applies number faults before after)
          → ((mid : S) → OperatesOn applies number faults mid after → AppliesAll (faults_in number faults) mid after) → AppliesAll (cond b (fault ∷ faults_in number faults) (faults_in number faults)) before after
      by_turn true now rest = (now.0, now.1, rest now.0 now.2)
      by_turn false now rest = rest before now

  from_all : (faults : List Fault) (before after : S) → AppliesAll (faults_in number faults) before after → OperatesOn applies number faults before after
  from_all [] before after does = does
  from_all (fault ∷ faults) before after does = by_turn (fault.at == number) does (λ mid rest. from_all faults mid after rest)
    where
      by_turn : (b : Bool) → AppliesAll (cond b (fault ∷ faults_in number faults) (faults_in number faults)) before after
          → ((mid : S) → AppliesAll (faults_in number faults) mid after → OperatesOn applies number faults mid after) → MatchBool b ((mid : S) × applies (event_of_fault fault) before mid × OperatesOn applies number faults mid after) (OperatesOn applies number faults before after)
      by_turn true now rest = (now.0, now.1, rest now.0 now.2)
      by_turn false now rest = rest before now

  -- the turn of these faults is that of others which have the same in this turn
  pub operates_same : (left faults : List Fault) (before after : S) → faults_in number left ≡ faults_in number faults → OperatesOn applies number left before after → OperatesOn applies number faults before after
  operates_same left faults before after same does = from_all faults before after (subst (λ (xs : List Fault). AppliesAll xs before after) same (to_all left before after does))

  -- where none is due, nothing happens
  pub operates_none : (left : List Fault) (before : S) → faults_in number left ≡ [] → OperatesOn applies number left before before
  operates_none left before none = from_all left before before (subst (λ (xs : List Fault). AppliesAll xs before before) (sym none) refl)
