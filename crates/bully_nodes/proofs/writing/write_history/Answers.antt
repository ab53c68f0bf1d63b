-- The trace of the history is one that a text can tell.
use Rattle.std.proofs.Common.{subst}
use Rattle.bully_rows.specs.Rows.{IsTraceOf}
use Rattle.bully_nodes.proofs.writing.write_history.Goals as goal

pub returns-clause-read_back : goal.returns-clause-read_back
returns-clause-read_back g c = λ none.
    subst (IsTraceOf (g.W.Write.contents c.write_trace.new.writer)) c.in_ok-trace.ensures.trace (c.in_ok-write_trace.ensures.read_back none c.in_ok-trace.ensures.told)
