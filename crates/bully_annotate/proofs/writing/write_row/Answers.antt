-- The lines of the row are what the writer took.
use Rattle.std.proofs.Common.{rules}
use Rattle.std.specs.String.{string_bytes}
use Rattle.bully_annotate.proofs.SaysLemmas.{line-written}
use Rattle.bully_annotate.proofs.writing.write_row.Goals as goal

pub returns-clause-said : goal.returns-clause-said
returns-clause-said g c = λ number more after w lawful.
    line-written c.args.annotator.now c.say.new.self number c.args.row.now more after w (string_bytes c.clear.new.self) (string_bytes c.say.new.text)
    (g.W.Write.contents c.args.writer.now) (g.W.Write.contents c.write_all.new.self) c.in_ok-count.count c.clear.ensures.bytes (search rules)
    (c.in_ok-count.ensures.said number more after w lawful)
