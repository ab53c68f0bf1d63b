-- What a group is set up with.
use Rattle.std.specs.Prelude.{◌≡◌, ℕ, ◌-◌, ◌<◌, ◌≤◌, Bool, false, List, ◌++◌, ◌&&◌, not, nat_lt, nat_le, ◌==◌, All}
use Rattle.std.specs.Prelude.{length, replicate, slice_index_or}
use Rattle.std.specs.List.{list_all}
use Rattle.bully_base.specs.declared.TheConstants.{NODES_MAX, PARTITIONS_MAX, EVENTS_MAX, WEIGHT_MAX}

-- the numbers of nodes and of partitions, the most events that are applied, whether a task is kept over a crash, and
-- the weight of each node, that of node 1 first
pub record Setup : Type 0 where
  pub nodes : ℕ
  pub partitions : ℕ
  pub events_max : ℕ
  pub keeps : Bool
  pub weights : List ℕ

-- its numbers, without the weights
pub record Limits : Type 0 where
  pub nodes : ℕ
  pub partitions : ℕ
  pub events_max : ℕ

abbrev pub limits_of : Setup → Limits
limits_of setup = record { nodes = setup.nodes; partitions = setup.partitions; events_max = setup.events_max }

abbrev pub setup_of : Limits → Bool → List ℕ → Setup
setup_of limits keeps weights = record {
  nodes = limits.nodes;
  partitions = limits.partitions;
  events_max = limits.events_max;
  keeps = keeps;
  weights = weights;
}

-- a number of a node of some group
abbrev pub IsNodeNumber : ℕ → Type 0
IsNodeNumber i = (0 < i) × (i ≤ NODES_MAX)

abbrev pub IsPartitionCount : ℕ → Type 0
IsPartitionCount p = (0 < p) × (p ≤ PARTITIONS_MAX)

abbrev pub IsEventsBound : ℕ → Type 0
IsEventsBound e = (0 < e) × (e ≤ EVENTS_MAX)

abbrev pub IsWeight : ℕ → Type 0
IsWeight w = (0 < w) × (w ≤ WEIGHT_MAX)

-- a weight for each of so many nodes
abbrev pub AreWeights : ℕ → List ℕ → Type 0
AreWeights nodes weights = (length weights ≡ nodes) × All IsWeight weights

pub record AreLimits (limits : Limits) : Type 0 where
  pub nodes : IsNodeNumber limits.nodes
  pub partitions : IsPartitionCount limits.partitions
  pub events : IsEventsBound limits.events_max

-- the setup is within the limits
pub record IsSetup (setup : Setup) : Type 0 where
  pub nodes : IsNodeNumber setup.nodes
  pub partitions : IsPartitionCount setup.partitions
  pub events : IsEventsBound setup.events_max
  pub weights : AreWeights setup.nodes setup.weights

-- the group has a node i
abbrev pub IsNode : Setup → ℕ → Type 0
IsNode setup i = (0 < i) × (i ≤ setup.nodes)

abbrev pub is_node : Setup → ℕ → Bool
is_node setup i = nat_lt 0 i && nat_le i setup.nodes

-- the weight of node i
abbrev pub weight_of : Setup → ℕ → ℕ
weight_of setup i = slice_index_or setup.weights (i - 1) 0

-- a weight for each node that a group may have: these first, and 0 after them
abbrev pub padded : ℕ → List ℕ → List ℕ
padded nodes weights = weights ++ replicate (NODES_MAX - nodes) 0

-- the setup of these numbers, in which all nodes weigh 1 and no task is kept
abbrev pub even_setup : ℕ → ℕ → ℕ → Setup
even_setup nodes partitions events_max = record {
  nodes = nodes;
  partitions = partitions;
  events_max = events_max;
  keeps = false;
  weights = replicate nodes 1;
}

-- all nodes weigh 1 and no task is kept
abbrev pub is_even : Setup → Bool
is_even setup = not setup.keeps && list_all (λ w. w == 1) setup.weights
