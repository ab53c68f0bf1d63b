use Rattle.std.proofs.Common.{◌≡◌, ◌≢◌, ◌≤◌, ℕ}
use Rattle.bully_base.specs.declared.node.Status.TheVariants.{Normal}
use Rattle.bully_world.specs.State.{world_of}
use Rattle.bully_world.specs.World.{vector}
use Rattle.bully_agree.proofs.leading.first_normal.Given as goal

-- none of the first nodes is Normal
abbrev pub invariant-loop-before : goal.invariant-loop-before
invariant-loop-before l = record {
  none : (i : ℕ) → i ≤ l.before → (vector (world_of l.world) i).status ≢ Normal;
  end : l.before-end ≡ l.world.setup.nodes;
}
