-- All events but a recovery, a crash and a run are the node's that they name.
use Rattle.std.proofs.Common.{arith}
use Rattle.bully_watch.proofs.PartLemmas.{whose_other}
use Rattle.bully_world.specs.State.{world_of}
use Rattle.bully_group.proofs.locked.step.actor_of.Goals as goal

pub returns-in_default : goal.returns-in_default
returns-in_default c =
    grind (arith, whose_other (world_of c.args.world.now) c.args.event.now c.in_default.not-Recover c.in_default.not-Crash c.in_default.not-Run, c.node.ensures, c.number.ensures.number)
