use Rattle.bully_world.specs.State.{world_of}
use Rattle.bully_account.proofs.EachLemmas.{more-none}
use Rattle.bully_account.proofs.memory.Memories.take_more.Goals as goal

pub returns-in_default-clause-more : goal.returns-in_default-clause-more
returns-in_default-clause-more c = more-none (world_of c.args.world.now) c.args.event.now c.args.row c.args.cuts c.args.self.now.nodes.items c.in_default.not-Start c.in_default.not-Run c.in_default.not-Plan
