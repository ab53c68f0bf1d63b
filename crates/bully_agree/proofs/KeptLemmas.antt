-- A setup that is kept without its weights where it is even.
use Rattle.std.proofs.Common.{◌≡◌, ◌∙◌, ℕ, true, List, replicate, ap, arith, ◌==◌, not}
use Rattle.std.specs.List.{list_all}
use Rattle.std.proofs.lemmas.Bool.{and_parts, not-true}
use Rattle.bully_base.proofs.SetupLemmas.{ones-all}
use Rattle.bully_base.specs.Setup.{Setup, IsSetup, is_even, limits_of}
use Rattle.bully_agree.specs.KeptSetup.{kept_setup}

pub kept-even : (s : Setup) (nothing : List ℕ) → IsSetup s → is_even s ≡ true → kept_setup (limits_of s) s.keeps true nothing ≡ s
kept-even s nothing is even =
    let (clears, ones) = and_parts (not s.keeps) (list_all (λ w. w == 1) s.weights) even in
    let keeps = not-true s.keeps clears in
    let weights : s.weights ≡ replicate s.nodes 1 = ones-all s.weights ones ∙ ap (λ (n : ℕ). replicate n 1) is.weights.0 in
    grind (arith, keeps, weights)
