-- The world: for each node a vector, a point, and at most one pending call.
use Rattle.std.specs.Prelude.{ℕ, ◌==◌, ◌&&◌, Bool, false, List, replicate, Option, Some, None, option_map}
use Rattle.bully_base.specs.Places.{at_node, put_node}
use Rattle.bully_base.specs.Setup.{Setup}
use Rattle.bully_calls.specs.Pending.{Pending, orphan_of, is_sent}
use Rattle.bully_handlers.specs.Vector.{Vector, empty_vector}
use Rattle.bully_steps.specs.declared.point.Point.{Point}
use Rattle.bully_steps.specs.declared.point.Point.TheVariants.{Idle}

-- what a world has of one node
pub record NodeState : Type 0 where
  pub vector : Vector
  pub point : Point
  pub pending : Option Pending

abbrev pub empty_node_state : NodeState
empty_node_state = record { vector = empty_vector; point = Idle; pending = None }

-- a state for each node, from node 1 on
pub record World : Type 0 where
  pub states : List NodeState

-- node i's state; a number that is no node's reads as the empty state
abbrev pub node_state : World → ℕ → NodeState
node_state w i = at_node empty_node_state w.states i

abbrev pub vector : World → ℕ → Vector
vector w i = (node_state w i).vector

abbrev pub point : World → ℕ → Point
point w i = (node_state w i).point

abbrev pub pending : World → ℕ → Option Pending
pending w i = (node_state w i).pending

-- the world where node i is m from now on, and all else is as it was
abbrev pub with_node_state : World → ℕ → NodeState → World
with_node_state w i m = record w { states = put_node w.states i m }

-- stop: the procedure is given up, and the call, if any, is an orphan
abbrev pub stopped : NodeState → NodeState
stopped m = record m { point = Idle; pending = option_map orphan_of m.pending }

-- before any event
abbrev pub first_world : Setup → World
first_world setup = record { states = replicate setup.nodes empty_node_state }

-- the pending call was sent to node j
abbrev pub is_sent_to : ℕ → Option Pending → Bool
is_sent_to j None = false
is_sent_to j (Some c) = is_sent c.phase && (c.call.callee == j)
