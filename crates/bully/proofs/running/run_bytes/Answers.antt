use Rattle.std.proofs.Common.{inr}
use Rattle.bully.proofs.KnownBytesLemmas.{keeps-refl}
use Rattle.bully.proofs.ConfigLemmas.{config-refused, run-answered}
use Rattle.bully.proofs.running.run_bytes.Goals as goal

pub returns-in-Ok-clause-answer : goal.returns-in-Ok-clause-answer
returns-in-Ok-clause-answer g c =
    run-answered g.W.Write.contents g.E.Write.contents c.args.bytes.now c.in-Ok.config _ _ _ _ c.run_config.result c.in-Ok.ensures.ok c.run_config.ensures

pub returns-in-Err-clause-answer : goal.returns-in-Err-clause-answer
returns-in-Err-clause-answer g c =
    inr (inr (config-refused c.args.bytes.now c.in-Err.fault c.from.result _ _ _ _ c.answer_refusal.result c.in-Err.ensures.fault c.from.ensures (keeps-refl _) c.answer_refusal.ensures))
