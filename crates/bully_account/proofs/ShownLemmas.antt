-- What is shown of the nodes of a world.
use Rattle.std.proofs.Common.{◌≡◌, ℕ, ◌+◌, ◌++◌, List, [], ◌∷◌, length, arith, subst}
use Rattle.bully_world.specs.State.{WorldState}
use Rattle.bully_account.specs.declared.showing.NodeSheet.{NodeSheet}
use Rattle.bully_account.specs.NodeSummary.{Shows, ShowsFrom}

-- one more node is shown
pub shows-more : (w : WorldState) (i j : ℕ) (sheets : List NodeSheet) (sheet : NodeSheet) → length sheets + i ≡ j → ShowsFrom w i sheets → Shows w j sheet
    → ShowsFrom w i (sheets ++ sheet ∷ [])
shows-more w i j [] sheet e all more =
    let same : j ≡ i = omega (arith, e) in
    (subst (λ k. Shows w k sheet) same more, tt)
shows-more w i j (first ∷ rest) sheet e (here, all) more = (here, shows-more w (i + 1) j rest sheet (omega (arith, e)) all more)
