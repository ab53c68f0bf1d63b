use Rattle.bully.proofs.ConfigLemmas.{config-refused}
use Rattle.bully.proofs.DrawLemmas.{drawn-by, refused-by}
use Rattle.bully.proofs.KnownBytesLemmas.{keeps-refl}
use Rattle.bully.proofs.drawing.draw_with.Goals as goal

pub returns-in-Ok-clause-answer : goal.returns-in-Ok-clause-answer
returns-in-Ok-clause-answer g c =
    drawn-by (g.R.Read.remaining c.args.input) c.args.file.now c.in-Ok.config _ _ _ _ _ _ c.in-Ok.ensures.ok c.draw_input.ensures.answer

pub returns-in-Err-clause-answer : goal.returns-in-Err-clause-answer
returns-in-Err-clause-answer g c =
    refused-by (g.R.Read.remaining c.args.input) c.args.file.now _ _ _ _ _ _
    (config-refused c.args.file.now c.in-Err.fault c.from.result _ _ _ _ c.answer_refusal.result c.in-Err.ensures.fault c.from.ensures (keeps-refl _) c.answer_refusal.ensures)
