-- A text that is cut at spaces, piece by piece.
use Rattle.std.specs.Prelude.{ℕ, Bool, List, [], Option, Some, None, ◌==◌}
use Rattle.std.specs.List.{slice_split}
use Rattle.std.specs.Borrow.{Bor}

abbrev pub is_space : ℕ → Bool
is_space b = b == 32

-- the pieces of what is left, if anything is
abbrev pub pieces_left : Option (Bor (List ℕ)) → List (List ℕ)
pieces_left None = []
pieces_left (Some rest) = slice_split (λ b. b == 32) rest.now
