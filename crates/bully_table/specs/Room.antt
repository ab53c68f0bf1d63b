-- Room for one table, which may be empty.
use Rattle.std.specs.Prelude.{◌≡◌, ◌≤◌, ℕ, List, [], Bool, false, Option, None, Some, length}

-- the table in the room, if any, and of how many partitions a table fits in
pub record Room : Type 0 where
  pub table : Option (List ℕ)
  pub size : ℕ

-- a table that was put in has that size; before the first one the memory for it is reserved, and nothing is in it
abbrev pub IsRoom : Option (List ℕ) → List ℕ → ℕ → ℕ → Bool → Type 0
IsRoom None reserved capacity size is_full = (is_full ≡ false) × (reserved ≡ []) × (size ≤ capacity)
IsRoom (Some table) reserved capacity size is_full = length table ≡ size
