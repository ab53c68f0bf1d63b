-- A list that is made of another one, item by item.
use Rattle.std.proofs.Common.{◌≡◌, ◌∙◌, ◌+◌, ◌<◌, ◌++◌, ℕ, List, [], ◌∷◌, ap, get_or, length, map, sym, take}
use Rattle.std.proofs.lemmas.List.{map_more}

-- one more
pub mapped-more : {X Y : Type 0} (f : X → Y) (xs : List X) (k : ℕ) (d x : X) (old new : List Y) → k < length xs → x ≡ get_or xs k d
    → old ≡ map f (take k xs) → new ≡ old ++ f x ∷ [] → new ≡ map f (take (k + 1) xs)
mapped-more {X} {Y} f xs k d x old new below is was more =
    more
    ∙ (ap (λ (ys : List Y). ys ++ f x ∷ []) was
    ∙ (ap (λ (z : X). map f (take k xs) ++ f z ∷ []) is
    ∙ sym (map_more f xs k d below)))
