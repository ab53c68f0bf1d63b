-- The text of a set that grows by a member.
use Rattle.std.proofs.Common.{◌≡◌, inl, inr, ◌∙◌, ℕ, ◌+◌, ◌<◌, List, [], ◌∷◌, ◌++◌, length, Option, Some, Result, Ok, Err, append_assoc, refl, sym, ap, arith, OnOk, codes, reverse}
use Rattle.std.specs.Fmt.{decimal}
use Rattle.std.proofs.lemmas.Bool.Decides.{nat_tests}
use Rattle.std.proofs.lemmas.Grind.{common_steps}
use Rattle.std.proofs.lemmas.List.{reverse-append, length-reverse}
use Rattle.std.proofs.lemmas.Option.{same_Some}
use Rattle.bully_base.specs.NodeSet.{IsFallingBelow, below_node, highest_of}
use Rattle.bully_base.proofs.NodeSetLemmas.{Has, below_node-all}
use Rattle.bully_table.specs.TableText.{owners_text}
use Rattle.bully_rows.specs.TraceText.{gap_behind}

-- a member of a falling list is below its bound
has-below : (k bound : ℕ) (ms : List ℕ) → IsFallingBelow bound ms → Has ms k → k < bound
has-below k bound [] falls has = absurd has
has-below k bound (m ∷ ms) falls (inl is) = omega (arith, falls.1, is)
has-below k bound (m ∷ ms) falls (inr has) = let low = has-below k m ms falls.2 has in omega (arith, low, falls.1)

-- up to a member, and up to one that is none
pub below-with : (k bound : ℕ) (ms : List ℕ) → IsFallingBelow bound ms → Has ms k → below_node (k + 1) ms ≡ k ∷ below_node k ms
below-with k bound [] falls has = absurd has
below-with k bound (m ∷ ms) falls (inl is) =
    let all = below_node-all (k + 1) ms m (omega (arith, is)) falls.2 in
    let same = below_node-all k ms m (omega (arith, is)) falls.2 in
    grind (arith, nat_tests, is, all, same)
below-with k bound (m ∷ ms) falls (inr has) =
    let low = has-below k m ms falls.2 has in
    let more = below-with k m ms falls.2 has in
    grind (arith, nat_tests, low, more)

pub below-without : (k : ℕ) (ms : List ℕ) → (Has ms k → ⊥) → below_node (k + 1) ms ≡ below_node k ms
below-without k [] none = refl
below-without k (m ∷ ms) none =
    let more = below-without k ms (λ has. none (inr has)) in
    let other : k ≡ m → ⊥ = λ is. none (inl is) in
    grind (arith, nat_tests, more, other)

-- up to the first node, and up to the highest member
pub below-first : (bound : ℕ) (ms : List ℕ) → IsFallingBelow bound ms → below_node 1 ms ≡ []
below-first bound [] falls = refl
below-first bound (m ∷ ms) falls =
    let more = below-first m ms falls.2 in
    grind (arith, nat_tests, falls.0, more)

pub below-highest : (bound highest : ℕ) (ms : List ℕ) → IsFallingBelow bound ms → highest_of ms ≡ Some highest → below_node (highest + 1) ms ≡ ms
below-highest bound highest [] falls is = absurd (cc is)
below-highest bound highest (m ∷ ms) falls is =
    let same = same_Some m highest is in
    let all = below_node-all (highest + 1) ms m (omega (arith, same)) falls.2 in
    grind (arith, nat_tests, same, all)

-- one owner behind others
snoc : (c : ℕ) (xs : List ℕ) (k : ℕ) → (xs ≡ [] → ⊥) → owners_text c (xs ++ k ∷ []) ≡ owners_text c xs ++ (c ∷ decimal k)
snoc c [] k some = absurd (some refl)
snoc c (a ∷ []) k some = grind (arith, common_steps)
snoc c (a ∷ b ∷ xs) k some =
    let more = snoc c (b ∷ xs) k (λ is. cc is) in
    let same = append_assoc (decimal a) (c ∷ owners_text c (b ∷ xs)) (c ∷ decimal k) in
    grind (arith, more, same)

-- one member above others
pub with-highest : (k : ℕ) (ms : List ℕ) → owners_text 32 (reverse (k ∷ ms)) ≡ (owners_text 32 (reverse ms) ++ gap_behind (highest_of ms)) ++ decimal k
with-highest k [] = grind (arith, common_steps)
with-highest k (m ∷ ms) =
    let turned = reverse-append (k ∷ []) (m ∷ ms) in
    let size = length-reverse (m ∷ ms) in
    let some : reverse (m ∷ ms) ≡ [] → ⊥ = λ none. absurd (omega (arith, size, ap length none)) in
    let same = append_assoc (owners_text 32 (reverse (m ∷ ms))) (codes " ") (decimal k) in
    ap (owners_text 32) turned ∙ snoc 32 (reverse (m ∷ ms)) k some ∙ sym same

-- the text behind one member more, which is written behind the space
pub grown : {E : Type 0} (k bound : ℕ) (ms : List ℕ) (lower : Option ℕ) (start text spaced new : List ℕ) (written : Result (Unit {0}) E)
    → IsFallingBelow bound ms → Has ms k → lower ≡ highest_of (below_node k ms) → text ≡ start ++ owners_text 32 (reverse (below_node k ms))
    → spaced ≡ text ++ gap_behind lower → OnOk written (new ≡ spaced ++ decimal k)
    → OnOk written (new ≡ start ++ owners_text 32 (reverse (below_node (k + 1) ms)))
grown k bound ms lower start text spaced new (Err why) falls has is so_far gap last = tt
grown k bound ms lower start text spaced new (Ok done) falls has is so_far gap last =
    let before = below_node k ms in
    let members = ap (λ (ns : List ℕ). owners_text 32 (reverse ns)) (below-with k bound ms falls has) ∙ with-highest k before in
    let old = owners_text 32 (reverse before) in
    let one = append_assoc start old (gap_behind (highest_of before)) in
    let two = append_assoc start (old ++ gap_behind (highest_of before)) (decimal k) in
    last ∙ ap (λ (t : List ℕ). t ++ decimal k) (gap ∙ rw (so_far, is) one) ∙ two ∙ ap (λ (t : List ℕ). start ++ t) (sym members)
