-- One more node that is stable.
use Rattle.std.proofs.Common.{◌≡◌, ◌<◌, ◌≤◌, ◌+◌, ◌⊎◌, inl, inr, ℕ, List, arith, sym, subst}
use Rattle.bully_rebalance.specs.Stable.{IsStableIn}
use Rattle.bully_world.specs.World.{World, vector}

pub stable_more : (w : World) (live : List ℕ) (n m : ℕ) → n + 1 ≡ m → ((i : ℕ) → 0 < i → i ≤ n → IsStableIn live i (vector w i)) → IsStableIn live m (vector w m)
    → (i : ℕ) → 0 < i → i ≤ n + 1 → IsStableIn live i (vector w i)
stable_more w live n m next first here i positive within = by_case (grind arith)
  where
    by_case : (i ≡ m) ⊎ (i ≤ n) → IsStableIn live i (vector w i)
    by_case (inl e) = subst (λ x. IsStableIn live x (vector w x)) (sym e) here
    by_case (inr low) = first i positive low
