-- The bytes that a reader keeps.
use Rattle.std.proofs.Common.{◌≡◌, ◌∙◌, ◌++◌, ◌≤◌, ℕ, List, length, take, min, ap, subst, sym, arith}
use Rattle.std.proofs.lemmas.List.{length-take, take-append-le, take_all, take_min}

-- so many of the first bytes were written to the front
pub first-kept : (most count : ℕ) (given written rest : List ℕ) → count ≡ min most (length given) → written ≡ take count given → take count (written ++ rest) ≡ take most given
first-kept most count given written rest is wrote =
    let long : length written ≡ min count (length given) = ap (λ (l : List ℕ). length l) wrote ∙ length-take count given in
    let all : length written ≤ count = omega arith in
    let enough : count ≤ length written = omega arith in
    take-append-le count written rest enough ∙ take_all count written all ∙ wrote ∙ ap (λ n. take n given) is ∙ take_min most given
