-- The trace that was read is one that a text can tell, and so is the annotated one.
use Rattle.std.proofs.Common.{◌≡◌}
use Rattle.std.specs.Io.KnownBytes.{Appends}
use Rattle.bully_annotate.proofs.ToldLemmas.{written-back, written-events}
use Rattle.bully_annotate.proofs.annotation.annotate.Goals as goal

pub returns-clause-events : goal.returns-clause-events
returns-clause-events g c =
    written-events (g.R.Read.remaining c.args.reader) c.in_ok-trace.trace c.annotate_trace.result
    (Appends (g.W.Write.contents c.args.writer.now) (g.W.Write.contents c.annotate_trace.new.writer)) (c.annotate_trace.new.writer ≡ c.args.writer.now)
    c.in_ok-trace.ensures.ok c.annotate_trace.ensures.annotated

pub returns-clause-read_back : goal.returns-clause-read_back
returns-clause-read_back g c =
    written-back (g.R.Read.remaining c.args.reader) c.in_ok-trace.trace c.annotate_trace.result
    (g.W.Write.contents c.args.writer.now) (g.W.Write.contents c.annotate_trace.new.writer) (c.annotate_trace.new.writer ≡ c.args.writer.now)
    c.in_ok-trace.ensures.ok c.annotate_trace.ensures.annotated
