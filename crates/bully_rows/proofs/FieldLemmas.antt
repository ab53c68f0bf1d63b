-- The fields of a record of known length.
use Rattle.std.proofs.Common.{Bor, ◌≡◌, ◌<◌, ℕ, zero, suc, List, [], ◌∷◌, length, Option, Some, None, IfSome, arith, refl, sym}
use Rattle.std.specs.Option.{IsSome, option_map}
use Rattle.csv.specs.Records.{field_at}

-- a place within the fields has a field
pub field-there : (fs : List (List ℕ)) (i : ℕ) (o : Option (Bor (List ℕ))) → i < length fs → option_map (λ s. s.now) o ≡ field_at fs i → IsSome o
unfolding field_at
field-there [] i o h e = absurd (omega arith)
field-there (f ∷ fs) zero None h e = cc e
field-there (f ∷ fs) zero (Some s) h e = refl
field-there (f ∷ fs) (suc i) o h e = field-there fs i o (omega arith) e

pub fields-two : (fs : List (List ℕ)) (a b : List ℕ) → length fs ≡ 2 → field_at fs 0 ≡ Some a → field_at fs 1 ≡ Some b → fs ≡ a ∷ b ∷ []
unfolding field_at
fields-two [] a b h x y = absurd (omega arith)
fields-two (f ∷ []) a b h x y = absurd (omega arith)
fields-two (f ∷ g ∷ []) a b h x y = cc (x, y)
fields-two (f ∷ g ∷ k ∷ rest) a b h x y = absurd (omega arith)

-- one field more, behind which are the others
pub fields-three : (fs : List (List ℕ)) (a b c : List ℕ) → length fs ≡ 3 → field_at fs 0 ≡ Some a → field_at fs 1 ≡ Some b → field_at fs 2 ≡ Some c → fs ≡ a ∷ b ∷ c ∷ []
unfolding field_at
fields-three [] a b c h x y z = absurd (omega arith)
fields-three (first ∷ rest) a b c h x y z =
    let others = fields-two rest b c (omega (arith, h)) y z in cc (x, others)

pub fields-four : (fs : List (List ℕ)) (a b c d : List ℕ) → length fs ≡ 4 → field_at fs 0 ≡ Some a → field_at fs 1 ≡ Some b → field_at fs 2 ≡ Some c → field_at fs 3 ≡ Some d → fs ≡ a ∷ b ∷ c ∷ d ∷ []
unfolding field_at
fields-four [] a b c d h x y z w = absurd (omega arith)
fields-four (first ∷ rest) a b c d h x y z w =
    let others = fields-three rest b c d (omega (arith, h)) y z w in cc (x, others)

pub fields-five : (fs : List (List ℕ)) (a b c d e : List ℕ) → length fs ≡ 5 → field_at fs 0 ≡ Some a → field_at fs 1 ≡ Some b → field_at fs 2 ≡ Some c → field_at fs 3 ≡ Some d → field_at fs 4 ≡ Some e
    → fs ≡ a ∷ b ∷ c ∷ d ∷ e ∷ []
unfolding field_at
fields-five [] a b c d e h x y z w u = absurd (omega arith)
fields-five (first ∷ rest) a b c d e h x y z w u =
    let others = fields-four rest b c d e (omega (arith, h)) y z w u in cc (x, others)

pub fields-six : (fs : List (List ℕ)) (a b c d e f : List ℕ) → length fs ≡ 6 → field_at fs 0 ≡ Some a → field_at fs 1 ≡ Some b → field_at fs 2 ≡ Some c → field_at fs 3 ≡ Some d → field_at fs 4 ≡ Some e → field_at fs 5 ≡ Some f
    → fs ≡ a ∷ b ∷ c ∷ d ∷ e ∷ f ∷ []
unfolding field_at
fields-six [] a b c d e f h x y z w u v = absurd (omega arith)
fields-six (first ∷ rest) a b c d e f h x y z w u v =
    let others = fields-five rest b c d e f (omega (arith, h)) y z w u v in cc (x, others)

pub fields-seven : (fs : List (List ℕ)) (a b c d e f g : List ℕ) → length fs ≡ 7 → field_at fs 0 ≡ Some a → field_at fs 1 ≡ Some b → field_at fs 2 ≡ Some c → field_at fs 3 ≡ Some d → field_at fs 4 ≡ Some e → field_at fs 5 ≡ Some f → field_at fs 6 ≡ Some g
    → fs ≡ a ∷ b ∷ c ∷ d ∷ e ∷ f ∷ g ∷ []
unfolding field_at
fields-seven [] a b c d e f g h x y z w u v t = absurd (omega arith)
fields-seven (first ∷ rest) a b c d e f g h x y z w u v t =
    let others = fields-six rest b c d e f g (omega (arith, h)) y z w u v t in cc (x, others)

-- what a mapped value comes to, where there is one
pub some-mapped : {A B : Type 0} (f : A → B) (o : Option A) (mapped : Option B) → option_map f o ≡ mapped → IfSome o (λ x. mapped ≡ Some (f x))
some-mapped f None mapped same = tt
some-mapped f (Some x) mapped same = sym same
