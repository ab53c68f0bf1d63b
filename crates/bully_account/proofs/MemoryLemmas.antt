-- The last notes of a list.
use Rattle.std.proofs.Common.{◌≡◌, ◌-◌, ◌<◌, List, [], ◌∷◌, ◌++◌, length, length-append, arith, remove}
use Rattle.std.proofs.lemmas.Grind.{common_steps}
use Rattle.bully_account.specs.declared.TheConstants.{ROWS_KEPT}
use Rattle.bully_account.specs.declared.memory.Note.{Note}
use Rattle.bully_account.specs.Remembered.{noted}

-- there is room for one more
pub noted_more : (notes : List Note) (note : Note) → length notes < ROWS_KEPT → notes ++ note ∷ [] ≡ noted notes note
noted_more notes note room =
    let none : length (notes ++ note ∷ []) - ROWS_KEPT ≡ 0 = omega (arith, room, length-append notes (note ∷ [])) in
    rw none (grind (arith, common_steps))

-- the oldest one makes room
pub noted_full : (notes : List Note) (note : Note) → length notes ≡ ROWS_KEPT → remove notes 0 ++ note ∷ [] ≡ noted notes note
noted_full [] note full = absurd (omega (arith, full))
noted_full (oldest ∷ notes) note full =
    let one : length ((oldest ∷ notes) ++ note ∷ []) - ROWS_KEPT ≡ 1 = omega (arith, full, length-append (oldest ∷ notes) (note ∷ [])) in
    rw one (grind (arith, common_steps))
