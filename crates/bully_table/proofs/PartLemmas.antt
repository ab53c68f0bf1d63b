-- Parts by weight: rounded down, they leave less than one partition for each member.
use Rattle.std.proofs.Common.{◌≡◌, ℕ, suc, ◌+◌, ◌*◌, ◌/◌, ◌<◌, ◌≤◌, List, [], ◌∷◌, length, arith, sym, refl, ◌∙◌, ap, Contains}
use Rattle.std.proofs.Math.Nat.{mul-add, mul_comm, mul-div-le, lt-mul-div-succ, mul-le-mul_left, div-le_of_le-mul, le_of_mul-le-mul_left, lt_of_mul-lt-mul_left}
use Rattle.bully_base.specs.NodeSet.{IsFallingBelow}
use Rattle.bully_base.specs.Setup.{Setup, IsSetup, weight_of}
use Rattle.bully_base.proofs.SetupLemmas.{weight-within}
use Rattle.bully_table.specs.Balance.{total_weight, base_of}
use Rattle.bully_table.proofs.BalanceSteps.{falling-within}
use Rattle.bully_table.proofs.TotalLemmas.{total, total-sum_by, total-same, total-below-within}

-- the parts of p, where w goes into parts of these weights
abbrev parts : ℕ → ℕ → (ℕ → ℕ) → List ℕ → ℕ
parts p w weight ms = total (λ m. p * weight m / w) ms

sum_le : (a b c d : ℕ) → a ≤ c → b ≤ d → a + b ≤ c + d
sum_le a b c d h k = omega arith

parts-low : (p w : ℕ) (weight : ℕ → ℕ) (ms : List ℕ) → w * parts p w weight ms ≤ p * total weight ms
parts-low p w weight [] = omega arith
parts-low p w weight (m ∷ ms) =
    let left : w * parts p w weight (m ∷ ms) ≡ w * (p * weight m / w) + w * parts p w weight ms = mul-add w (p * weight m / w) (parts p w weight ms) in
    let right : p * total weight (m ∷ ms) ≡ p * weight m + p * total weight ms = mul-add p (weight m) (total weight ms) in
    rw (left, right) (sum_le _ _ _ _ (mul-div-le (p * weight m) w) (parts-low p w weight ms))

sum_more : (a b n c d : ℕ) → a < c → b + n ≤ d → (a + b) + suc n ≤ c + d
sum_more a b n c d h k = omega arith

parts-high : (p w : ℕ) (weight : ℕ → ℕ) (ms : List ℕ) → 0 < w → p * total weight ms + length ms ≤ w * (parts p w weight ms + length ms)
parts-high p w weight [] pos = omega arith
parts-high p w weight (m ∷ ms) pos =
    let sum : parts p w weight (m ∷ ms) + length (m ∷ ms) ≡ (p * weight m / w + 1) + (parts p w weight ms + length ms) = omega arith in
    let left : p * total weight (m ∷ ms) ≡ p * weight m + p * total weight ms = mul-add p (weight m) (total weight ms) in
    let right : w * (parts p w weight (m ∷ ms) + length (m ∷ ms)) ≡ w * (p * weight m / w + 1) + w * (parts p w weight ms + length ms) = ap (λ (k : ℕ). w * k) sum ∙ mul-add w (p * weight m / w + 1) (parts p w weight ms + length ms) in
    rw (left, right) (sum_more _ _ _ _ _ (lt-mul-div-succ (p * weight m) pos) (parts-high p w weight ms pos))

-- what the members weigh
pub weights-are : (setup : Setup) (members : List ℕ) → total_weight setup members ≡ total (weight_of setup) members
unfolding total_weight
weights-are setup members = total-sum_by (weight_of setup) members

-- the bases are parts by weight
pub base-is : (setup : Setup) (members : List ℕ) (m : ℕ) → base_of setup members m ≡ setup.partitions * weight_of setup m / total_weight setup members
unfolding base_of
base-is setup members m = refl

bases-are : (setup : Setup) (members : List ℕ) → total (base_of setup members) members ≡ parts setup.partitions (total_weight setup members) (weight_of setup) members
bases-are setup members = total-same _ _ members (λ m x. base-is setup members m)

-- the partitions, as often as all weigh
all-weigh : (setup : Setup) (members : List ℕ) → setup.partitions * total (weight_of setup) members ≡ total_weight setup members * setup.partitions
all-weigh setup members = ap (λ (k : ℕ). setup.partitions * k) (sym (weights-are setup members)) ∙ mul_comm setup.partitions (total_weight setup members)

pub bases-fit : (setup : Setup) (members : List ℕ) → 0 < total_weight setup members → total (base_of setup members) members ≤ setup.partitions
bases-fit setup members pos =
    let low : total_weight setup members * parts setup.partitions (total_weight setup members) (weight_of setup) members ≤ total_weight setup members * setup.partitions = rw (all-weigh setup members) at (parts-low setup.partitions (total_weight setup members) (weight_of setup) members) in
    rw (bases-are setup members) (le_of_mul-le-mul_left low pos)

below-sum : (a n b : ℕ) → 0 < n → a + n ≤ b → a < b
below-sum a n b pos l = omega arith

pub bases-left : (setup : Setup) (members : List ℕ) → 0 < total_weight setup members → 0 < length members → setup.partitions < total (base_of setup members) members + length members
bases-left setup members pos some =
    let high : total_weight setup members * setup.partitions + length members ≤ total_weight setup members * (parts setup.partitions (total_weight setup members) (weight_of setup) members + length members) = rw (all-weigh setup members) at (parts-high setup.partitions (total_weight setup members) (weight_of setup) members pos) in
    rw (bases-are setup members) (lt_of_mul-lt-mul_left (total_weight setup members) (below-sum _ _ _ some high))

-- no part is more than the whole
pub part-fits : (p v w : ℕ) → v ≤ w → p * v / w ≤ p
part-fits p v w l =
    let most : p * v ≤ w * p = rw (mul_comm w p) (mul-le-mul_left p l) in
    div-le_of_le-mul w most

-- each member weighs something, and no more than all
pub weight-among : (setup : Setup) (bound : ℕ) (members : List ℕ) (m : ℕ) → IsFallingBelow bound members → Contains members m → weight_of setup m ≤ total_weight setup members
weight-among setup bound members m falling x = omega (arith, weights-are setup members, total-below-within (weight_of setup) bound m members falling x)

pub base-within : (setup : Setup) (bound : ℕ) (members : List ℕ) (m : ℕ) → IsFallingBelow bound members → Contains members m → base_of setup members m ≤ setup.partitions
base-within setup bound members m falling x = rw (base-is setup members m) (part-fits setup.partitions (weight_of setup m) (total_weight setup members) (weight-among setup bound members m falling x))

pub weight-some : (setup : Setup) (members : List ℕ) (m : ℕ) → IsSetup setup → IsFallingBelow (setup.nodes + 1) members → Contains members m → 0 < weight_of setup m
weight-some setup members m is falling x =
    let within = falling-within (setup.nodes + 1) members m falling x in
    (weight-within setup m is.weights (within.0, omega (arith, within.1))).0

pub weighs : (setup : Setup) (members : List ℕ) → IsSetup setup → IsFallingBelow (setup.nodes + 1) members → 0 < length members → 0 < total_weight setup members
weighs setup [] is falling some = absurd (omega arith)
weighs setup (m ∷ ms) is falling some =
    let first : Contains (m ∷ ms) m = (0, omega arith, refl) in
    omega (arith, weight-among setup (setup.nodes + 1) (m ∷ ms) m falling first, weight-some setup (m ∷ ms) m is falling first)

pub some-weighs : (setup : Setup) (members : List ℕ) → 0 < total_weight setup members → 0 < length members
some-weighs setup [] pos = absurd (omega (arith, weights-are setup []))
some-weighs setup (m ∷ ms) pos = omega arith
