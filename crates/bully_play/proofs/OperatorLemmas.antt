-- The faults from one place on.
use Rattle.std.proofs.Common.{◌≡◌, ℕ, ◌+◌, ◌<◌, List, ◌∷◌, length, drop, drop-cons, get_or, arith}
use Rattle.bully_config.specs.declared.config.Fault.{Fault}

-- from the fault at this place on
pub at_place : (faults : List Fault) (place : ℕ) (fault : Fault) → place < length faults → fault ≡ get_or faults place fault → drop place faults ≡ fault ∷ drop (place + 1) faults
at_place faults place fault below is = grind (arith, drop-cons faults place fault below, is)
