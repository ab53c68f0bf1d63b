-- What a view keeps of its nodes: the task that all Normal nodes have is kept once.
use Rattle.std.specs.Prelude.{◌≡◌, ℕ, List, Option, None}
use Rattle.bully_base.specs.declared.node.Status.{Status}
use Rattle.bully_base.specs.declared.node.Status.TheVariants.{Normal}
use Rattle.bully_handlers.specs.Vector.{Vector}
use Rattle.bully_world.specs.World.{World, NodeState, vector}
use Rattle.bully_agree.specs.View.{NodeView}
use Rattle.bully_agree.specs.declared.views.node_views.KeptNode.{KeptNode}

-- the task of a node of this status, of which this one is kept: that of the Normal nodes, or its own
abbrev pub task_shown : Option (List ℕ) → Status → Option (List ℕ) → Option (List ℕ)
task_shown normal Normal own = normal
task_shown normal status own = own

abbrev pub shown_with : Option (List ℕ) → KeptNode → NodeView
shown_with normal k =
    record { status = k.status; coordinator = k.coordinator; task = task_shown normal k.status k.task }

-- what is kept of a node: no task of its own where it is Normal
abbrev pub kept_by : Vector → KeptNode
kept_by v = record { status = v.status; coordinator = v.coordinator; task = task_shown None v.status v.task }

abbrev pub kept_of : NodeState → KeptNode
kept_of m = kept_by m.vector

-- each Normal node has this task
abbrev pub IsNormalTask : World → Option (List ℕ) → Type 0
IsNormalTask w task = (i : ℕ) → (vector w i).status ≡ Normal → task ≡ (vector w i).task
