-- What the nodes of a world agree on: the two assertions of the 1982 paper.
use Rattle.std.specs.Prelude.{◌≡◌, ℕ, IsSome}
use Rattle.bully_base.specs.declared.node.Status.TheVariants.{Normal}
use Rattle.bully_world.specs.NodeInvariant.{TakesPart}
use Rattle.bully_world.specs.World.{World, vector}

-- any two nodes in Reorganization or Normal have a coordinator, and the same; any two Normal nodes have a
-- task, and the same. 'Any two' is also a node and itself
pub record Agreement (w : World) : Type 0 where
  pub has_coordinator : (i : ℕ) → TakesPart (vector w i) → IsSome (vector w i).coordinator
  pub same_coordinator : (i j : ℕ) → TakesPart (vector w i) → TakesPart (vector w j)
      → (vector w i).coordinator ≡ (vector w j).coordinator
  pub has_task : (i : ℕ) → (vector w i).status ≡ Normal → IsSome (vector w i).task
  pub same_task : (i j : ℕ) → (vector w i).status ≡ Normal → (vector w j).status ≡ Normal
      → (vector w i).task ≡ (vector w j).task
