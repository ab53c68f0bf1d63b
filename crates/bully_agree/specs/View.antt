-- What a world shows of its nodes.
use Rattle.std.specs.Prelude.{◌≡◌, ℕ, List, map, length, Option, None, IsSome, ◌⊎◌}
use Rattle.bully_base.specs.Places.{at_node}
use Rattle.bully_base.specs.Setup.{Setup}
use Rattle.bully_base.specs.declared.node.Status.{Status}
use Rattle.bully_base.specs.declared.node.Status.TheVariants.{Down, Reorganization, Normal}
use Rattle.bully_calls.specs.declared.call.Answer.{Answer}
use Rattle.bully_handlers.specs.Vector.{Vector}
use Rattle.bully_calls.specs.declared.event.Event.{Event}
use Rattle.bully_world.specs.Lawful.{IsLawful}
use Rattle.bully_world.specs.World.{World, NodeState}

-- what is shown of one node
pub record NodeView : Type 0 where
  pub status : Status
  pub coordinator : Option ℕ
  pub task : Option (List ℕ)

-- the setup, how many events were applied, and what is shown of each node, from node 1 on
pub record View : Type 0 where
  pub setup : Setup
  pub events : ℕ
  pub nodes : List NodeView

abbrev pub nothing_shown : NodeView
nothing_shown = record { status = Down; coordinator = None; task = None }

-- what is shown of node i; a number that is no node's shows a Down node
abbrev pub shown : View → ℕ → NodeView
shown v i = at_node nothing_shown v.nodes i

abbrev pub shown_by : Vector → NodeView
shown_by v = record { status = v.status; coordinator = v.coordinator; task = v.task }

abbrev pub shown_of : NodeState → NodeView
shown_of m = shown_by m.vector

-- the view of a world in which so many events were applied
abbrev pub view_of : Setup → ℕ → World → View
view_of setup count w = record { setup = setup; events = count; nodes = map shown_of w.states }

-- the node is shown in Reorganization or Normal
abbrev pub ShowsPart : NodeView → Type 0
ShowsPart s = (s.status ≡ Reorganization) ⊎ (s.status ≡ Normal)

-- agreement, as far as a view shows it: any two nodes in Reorganization or Normal have a coordinator, and the
-- same; any two Normal nodes have a task, and the same
pub record ViewAgrees (v : View) : Type 0 where
  pub has_coordinator : (i : ℕ) → ShowsPart (shown v i) → IsSome (shown v i).coordinator
  pub same_coordinator : (i j : ℕ) → ShowsPart (shown v i) → ShowsPart (shown v j)
      → (shown v i).coordinator ≡ (shown v j).coordinator
  pub has_task : (i : ℕ) → (shown v i).status ≡ Normal → IsSome (shown v i).task
  pub same_task : (i j : ℕ) → (shown v i).status ≡ Normal → (shown v j).status ≡ Normal
      → (shown v i).task ≡ (shown v j).task

-- it is the view of a world that a lawful list leads to, of as many events as the view counts
pub record IsViewed (v : View) : Type 0 where
  pub events : List Event
  pub answers : List Answer
  pub world : World
  pub lawful : IsLawful v.setup events answers world
  pub view : v ≡ view_of v.setup (length events) world

-- what every view keeps
pub record IsView (v : View) : Type 0 where
  pub count : length v.nodes ≡ v.setup.nodes
  pub agrees : ViewAgrees v
  pub viewed : IsViewed v
