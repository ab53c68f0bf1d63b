-- The members of a list's items.
use Rattle.std.proofs.Common.{◌≡◌, ◌∷◌, [], zero, suc, List, Contains, map, arith, refl, ap}
use Rattle.bully_member.specs.Member.{MemberState}

pub mapped_has : {X : Type 0} (f : X → MemberState) (xs : List X) (x : X) → Contains xs x → Contains (map f xs) (f x)
mapped_has f [] x (i, low, at) = absurd (omega (arith, low))
mapped_has f (y ∷ xs) x (zero, low, at) = let same : y ≡ x = cc at in (0, omega arith, ap f same)
mapped_has f (y ∷ xs) x (suc i, low, at) = let has = mapped_has f xs x (i, omega (arith, low), at) in (suc has.0, omega (arith, has.1), has.2)

pub has_mapped : {X : Type 0} (f : X → MemberState) (xs : List X) (m : MemberState) → Contains (map f xs) m → (x : X) × Contains xs x × (m ≡ f x)
has_mapped f [] m (i, low, at) = absurd (omega (arith, low))
has_mapped f (x ∷ xs) m (zero, low, at) = (x, (0, omega arith, refl), cc at)
has_mapped f (x ∷ xs) m (suc i, low, at) = let (y, has, same) = has_mapped f xs m (i, omega (arith, low), at) in (y, (suc has.0, omega (arith, has.1), has.2), same)
