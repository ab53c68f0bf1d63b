use Rattle.std.proofs.Common.{rules}
use Rattle.bully_annotate.proofs.SaidLemmas.{annotated-lawful}
use Rattle.bully_annotate.proofs.annotation.write_lawful.Goals as goal

pub returns-in-Ok-clause-annotated : goal.returns-in-Ok-clause-annotated
returns-in-Ok-clause-annotated g c =
    let (w, verdict) = c.requires in
    (w, verdict, annotated-lawful c.args.trace.now c.args.count w verdict, search rules, search rules)
