-- What a setup keeps can be read off its value.
use Rattle.std.proofs.Common.{◌≡◌, ℕ, List, take, sym, ap}
use Rattle.bully_base.specs.declared.setup.Setup.TheInside.{Inside}
use Rattle.bully_base.specs.Setup.{IsSetup, setup_of, padded}

-- the same, but for its weights
abbrev with_weights : Inside → List ℕ → Inside
with_weights a weights = record { limits = a.limits; keeps = a.keeps; weights = weights }

pub inverse_of_view : (a : Inside) → IsSetup (setup_of a.limits a.keeps (take a.limits.nodes a.weights))
    × (a.weights ≡ padded a.limits.nodes (take a.limits.nodes a.weights)) →
    with_weights a (padded a.limits.nodes (take a.limits.nodes a.weights)) ≡ a
inverse_of_view a h = ap (with_weights a) (sym h.1)
