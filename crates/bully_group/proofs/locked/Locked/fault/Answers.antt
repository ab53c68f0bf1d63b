-- The actors of the history are those of a group.
use Rattle.std.proofs.Common.{rules, ◌≡◌, ◌≤◌}
use Rattle.bully_base.specs.declared.TheConstants.{NODES_MAX}
use Rattle.bully_world.specs.State.{world_of}
use Rattle.bully_group.proofs.PartCounts.{actors_at_most}
use Rattle.bully_group.proofs.locked.Locked.fault.Goals as goal

pub counts_of-counts-requires : goal.counts_of-counts-requires
counts_of-counts-requires g c =
    let history = c.self.inside.history.items in
    let same : c.deref.result.now ≡ history = search rules in
    let most : g.L.Naming.setup.nodes ≤ NODES_MAX = search rules in
    rw same (actors_at_most g.L.Naming.setup history (world_of c.self.inside.world) c.self.invariant.history most)

pub returns-in_err-actor : goal.returns-in_err-actor
returns-in_err-actor g c = search rules
