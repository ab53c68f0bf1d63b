-- What a closure that is handed to a search computes.
use Rattle.std.specs.Prelude.{◌≡◌}

-- each result at a value is that of the function, at what the value is seen as
abbrev pub Computes : {A B C : Type 0} → (A → B) → (A → C → Type 0) → (B → C) → Type 0
Computes {A} {C = C} view returns f = (x : A) (r : C) → returns x r → r ≡ f (view x)
