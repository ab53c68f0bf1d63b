-- Each entry stands in the log of its actor's seat alone.
use Rattle.std.proofs.Common.{rules, ◌≡◌, ◌+◌, length, All}
use Rattle.bully_world.specs.State.{world_of}
use Rattle.bully_group.specs.Finish.{AreOfGroup, HasPart}
use Rattle.bully_group.proofs.FinishLemmas.{each_in_one}
use Rattle.bully_group.proofs.locked.Locked.finish.Goals as goal

pub returns-clause-once : goal.returns-clause-once
returns-clause-once g c =
    let history = c.self.inside.history.items in
    let setup = g.L.Naming.setup in
    let same : c.args.self.history ≡ history = search rules in
    let count : length c.args.seats.items ≡ setup.nodes + 1 = search rules in
    let own : AreOfGroup setup.nodes c.args.seats.items = search rules in
    let logs : All (HasPart history) c.args.seats.items = search rules in
    rw same (each_in_one setup (world_of c.self.inside.world) history c.args.seats.items c.self.invariant.history count own logs)
