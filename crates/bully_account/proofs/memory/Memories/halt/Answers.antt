use Rattle.std.proofs.Common.{rules}
use Rattle.bully_account.proofs.EachLemmas.{halt-none, halt-noted, halt-other}
use Rattle.bully_account.proofs.memory.Memories.halt.Goals as goal

pub returns-then-is_halt-clause-halted : goal.returns-then-is_halt-clause-halted
returns-then-is_halt-clause-halted c =
    halt-noted c.args.caller c.args.row c.args.call c.in-Some.call c.args.moved c.args.self.now.nodes.items c.note.new.self.nodes.items c.in-Some.is (search rules) c.note.ensures.noted

pub returns-else-is_halt-clause-halted : goal.returns-else-is_halt-clause-halted
returns-else-is_halt-clause-halted c =
    halt-other c.args.caller c.args.row c.args.call c.in-Some.call c.args.moved c.args.self.now.nodes.items c.in-Some.is (search rules)

pub returns-in_default-clause-halted : goal.returns-in_default-clause-halted
returns-in_default-clause-halted c = halt-none c.args.caller c.args.row c.args.call c.args.moved c.args.self.now.nodes.items c.in_default.not-Some
