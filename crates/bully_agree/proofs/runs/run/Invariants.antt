use Rattle.std.proofs.Common.{◌≡◌, take, length}
use Rattle.bully_agree.specs.Runs.{RunsTo}
use Rattle.bully_world.specs.State.{world_of}
use Rattle.bully_agree.proofs.runs.run.Given as goal

-- the events so far are lawful, and led to the world
abbrev pub invariant-loop-index : goal.invariant-loop-index
invariant-loop-index l = record {
  setup : l.world.setup ≡ l.fn.setup;
  counted : l.world.events ≡ l.index;
  lawful : RunsTo l.fn.setup (take l.index l.events) (world_of l.world);
  end : l.index-end ≡ length l.events;
}
