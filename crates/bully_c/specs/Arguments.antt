-- What the arguments of C come to.
use Rattle.std.specs.Prelude.{◌≡◌, ◌≢◌, ◌⊎◌, ℕ, ◌<◌, ◌≤◌, List, [], ◌∷◌, ◌++◌, Option, Some, None, IfSome, All, drop}
use Rattle.std.specs.Prelude.{length, not, replicate, ◌==◌}
use Rattle.bully_base.specs.Setup.{AreWeights, IsEventsBound, IsNode, IsNodeNumber, IsPartitionCount, Setup}
use Rattle.bully_base.specs.declared.setup.SetupFault.{SetupFault}
use Rattle.bully_rows.specs.ReadBack.{AreOwners}
use Rattle.bully_c.specs.Numbers.{setup_number}
use Rattle.bully_c.specs.declared.tables.CSetup.{CSetup}
use Rattle.bully_c.specs.declared.status.TheConstants.{OK, OUT_OF_MEMORY, SHORT, TABLE_LENGTH, TABLE_OWNER}

-- ---- setups

-- the weights of so many nodes: those that are given, or 1 for each where none is
abbrev pub weights_given : ℕ → List ℕ → List ℕ
weights_given nodes [] = replicate nodes 1
weights_given nodes (weight ∷ weights) = weight ∷ weights

-- a setup with weights
abbrev pub setup_with : CSetup → List ℕ → Setup
setup_with s weights = record {
  nodes = s.nodes;
  partitions = s.partitions;
  events_max = s.events_max;
  keeps = not (s.keeps == 0);
  weights = weights;
}

abbrev pub setup_given : CSetup → List ℕ → Setup
setup_given s weights = setup_with s (weights_given s.nodes weights)

-- why there is no such setup, the first of these that holds
abbrev pub RefusesSetup : Setup → SetupFault → Type 0
RefusesSetup s SetupFault.BadNodes = ¬ IsNodeNumber s.nodes
RefusesSetup s SetupFault.BadPartitions = IsNodeNumber s.nodes × ¬ IsPartitionCount s.partitions
RefusesSetup s SetupFault.BadLimit = IsNodeNumber s.nodes × IsPartitionCount s.partitions × ¬ IsEventsBound s.events_max
RefusesSetup s SetupFault.BadWeights = IsNodeNumber s.nodes × IsPartitionCount s.partitions × IsEventsBound s.events_max
    × ¬ AreWeights s.nodes s.weights

-- and its number
abbrev pub IsSetupRefusal : Setup → ℕ → Type 0
IsSetupRefusal s status = (fault : SetupFault) × (status ≡ setup_number fault) × RefusesSetup s fault

-- ---- tables

-- why these are no owners of the setup, or that an allocation failed
pub record RefusesOwners (s : Setup) (owners : List ℕ) (status : ℕ) : Type 0 where
  pub known : (status ≡ TABLE_LENGTH) ⊎ (status ≡ TABLE_OWNER) ⊎ (status ≡ OUT_OF_MEMORY)
  pub of_length : status ≡ TABLE_LENGTH → length owners ≢ s.partitions
  pub of_owner : status ≡ TABLE_OWNER → (length owners ≡ s.partitions) × ¬ All (IsNode s) owners
  pub of_memory : status ≡ OUT_OF_MEMORY → AreOwners s owners

-- the table of these owners, where there are any
abbrev pub table_given : List ℕ → Option (List ℕ)
table_given [] = None
table_given (owner ∷ owners) = Some (owner ∷ owners)

-- there are no owners, or they are those of a table of the setup
abbrev pub AreGiven : Setup → List ℕ → Type 0
AreGiven s owners = IfSome (table_given owners) (AreOwners s)

-- why owners that are given are none of the setup, or that an allocation failed; none at all is never refused
abbrev pub RefusesGiven : Setup → List ℕ → ℕ → Type 0
RefusesGiven s [] status = ⊥
RefusesGiven s (owner ∷ owners) status = RefusesOwners s (owner ∷ owners) status

-- ---- what is written into the room that is given

-- the items are written at its front, and their count, or there isn't room for them, and their count alone is
pub record IsCopied (items before : List ℕ) (status : ℕ) (after : List ℕ) (count : ℕ) : Type 0 where
  pub count_is : count ≡ length items
  pub fits : length items ≤ length before → (status ≡ OK) × (after ≡ items ++ drop (length items) before)
  pub short : length before < length items → (status ≡ SHORT) × (after ≡ before)

-- an allocation failed, and nothing is written, or the items are copied
abbrev pub IsMadeAndCopied : List ℕ → List ℕ → ℕ → ℕ → List ℕ → ℕ → Type 0
IsMadeAndCopied items before count_before status after count =
    ((status ≡ OUT_OF_MEMORY) × (after ≡ before) × (count ≡ count_before)) ⊎ IsCopied items before status after count
