-- An old table that is given.
use Rattle.std.proofs.Common.{◌≡◌, ◌==◌, ℕ, List, [], ◌∷◌, false, inr, length}
use Rattle.bully_base.specs.Setup.{Setup}
use Rattle.bully_c.specs.OldTables.{AreOld, AreOldOwners, RefusesOld}
use Rattle.bully_c.specs.declared.status.TheConstants.{OUT_OF_MEMORY}

pub old-are : (s : Setup) (owners : List ℕ) → length owners ≡ s.partitions → AreOldOwners s owners → AreOld s owners
old-are s [] covers are = tt
old-are s (owner ∷ owners) covers are = (covers, are)

pub old-memory : (s : Setup) (owners : List ℕ) (status : ℕ) → (length owners == 0) ≡ false → status ≡ OUT_OF_MEMORY → length owners ≡ s.partitions → AreOldOwners s owners → RefusesOld s owners status
old-memory s [] status some is covers are = absurd (cc some)
old-memory s (owner ∷ owners) status some is covers are = inr (inr (is, (covers, are)))
