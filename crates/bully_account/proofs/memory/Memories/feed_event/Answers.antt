use Rattle.bully_world.specs.State.{world_of}
use Rattle.bully_account.proofs.EachLemmas.{behind-both, note-is, noting}
use Rattle.bully_account.proofs.memory.Memories.feed_event.Goals as goal

pub returns-clause-taken : goal.returns-clause-taken
returns-clause-taken c = λ within.
    let w = world_of c.args.world.now in
    let e = c.args.event.now in
    let i = c.node-node.result in
    let told = note-is w e c.args.row i c.args.moves c.call_at-call.result c.what_of-what.result c.has_moved-moved.result c.node-node.ensures c.call_at-call.ensures c.what_of-what.ensures
    c.has_moved-moved.ensures in
    behind-both w e c.args.row i c.args.moves (noting c.args.row c.what_of-what.result c.has_moved-moved.result) c.args.self.now.nodes.items c.note.new.self.nodes.items c.take_more.new.self.nodes.items
    c.node-node.ensures told c.note.ensures.noted c.take_more.ensures.more
