-- A configuration, and its limits.
use Rattle.std.specs.Prelude.{◌≡◌, ℕ, ◌<◌, ◌≤◌, Bool, true, false, ◌||◌, List, [], ◌∷◌, length, Option}
use Rattle.std.specs.List.{list_any, AllByRecursion, position_from}
use Rattle.std.specs.Str.{bytes_eq}
use Rattle.bully_base.specs.Setup.{Setup, IsSetup, IsNode}
use Rattle.bully_config.specs.declared.config.Fault.{Fault}
use Rattle.bully_config.specs.declared.TheConstants.{TURNS_MAX, PERIOD_MIN, PERIOD_MAX, FAULTS_MAX}

-- the name at place k, counted from 1, is that of node k
pub record Configuration : Type 0 where
  pub setup : Setup
  pub turns : ℕ
  pub period : ℕ
  pub names : List (List ℕ)
  pub faults : List Fault

-- the node of this name, which the names tell by its place
abbrev pub node_named : List (List ℕ) → List ℕ → Option ℕ
node_named names name = position_from (bytes_eq name) 1 names

-- some name stands there twice
abbrev pub has_double : List (List ℕ) → Bool
has_double [] = false
has_double (name ∷ names) = list_any (bytes_eq name) names || has_double names

abbrev pub is_empty : List ℕ → Bool
is_empty [] = true
is_empty (byte ∷ bytes) = false

-- the fault is in a turn that there is, at a node of the setup
abbrev pub IsFaultOf : Setup → ℕ → Fault → Type 0
IsFaultOf setup turns fault = (0 < fault.at) × (fault.at ≤ turns) × IsNode setup fault.node

-- the configuration is within the limits
pub record IsConfiguration (c : Configuration) : Type 0 where
  pub setup : IsSetup c.setup
  pub turns : (0 < c.turns) × (c.turns ≤ TURNS_MAX)
  pub period : (PERIOD_MIN ≤ c.period) × (c.period ≤ PERIOD_MAX)
  pub names : length c.names ≡ c.setup.nodes
  pub distinct : has_double c.names ≡ false
  pub full : list_any is_empty c.names ≡ false
  pub few : length c.faults ≤ FAULTS_MAX
  pub faults : AllByRecursion (IsFaultOf c.setup c.turns) c.faults
