use Rattle.std.proofs.Common.{rules}
use Rattle.bully_nodes.proofs.ToldLemmas.{history-told}
use Rattle.bully_nodes.proofs.writing.trace_of.Goals as goal

pub returns-clause-told : goal.returns-clause-told
returns-clause-told c = history-told c.args.closed.now c.trace_with.result (search rules) c.history.ensures.closed (search rules)
