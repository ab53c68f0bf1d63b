use Rattle.std.proofs.Common.{inr}
use Rattle.bully.proofs.KnownBytesLemmas.{keeps-refl}
use Rattle.bully.proofs.ConfigLemmas.{config-refused, play-answered}
use Rattle.bully.proofs.playing.play_bytes.Goals as goal

pub returns-in-Ok-clause-answer : goal.returns-in-Ok-clause-answer
returns-in-Ok-clause-answer g c =
    play-answered g.W.Write.contents g.E.Write.contents c.args.bytes.now c.in-Ok.config _ _ _ _ c.answer_config.result c.in-Ok.ensures.ok c.answer_config.ensures

pub returns-in-Err-clause-answer : goal.returns-in-Err-clause-answer
returns-in-Err-clause-answer g c =
    inr (config-refused c.args.bytes.now c.in-Err.fault c.from.result _ _ _ _ c.answer_refusal.result c.in-Err.ensures.fault c.from.ensures (keeps-refl _) c.answer_refusal.ensures)
