use Rattle.std.proofs.Common.{map, option_map}
use Rattle.bully.proofs.KnownBytesLemmas.{keeps-refl}
use Rattle.bully.proofs.ConfigLemmas.{table-answered, table-refused}
use Rattle.bully.proofs.tables.plan_bytes.Goals as goal

pub returns-in-Ok-clause-answer : goal.returns-in-Ok-clause-answer
returns-in-Ok-clause-answer g c =
    rw (← c.is_given.ensures) (table-answered g.W.Write.contents g.E.Write.contents c.is_given.result c.args.bytes.now (map (λ s. s.now) c.args.words.now.members.items) (option_map (λ s. s.now) c.args.words.now.old)
    c.in-Ok.plan _ _ _ _ c.answer_plan.result c.in-Ok.ensures c.answer_plan.ensures)

pub returns-in-Err-clause-answer : goal.returns-in-Err-clause-answer
returns-in-Err-clause-answer g c =
    table-refused _ c.args.bytes.now (map (λ s. s.now) c.args.words.now.members.items) (option_map (λ s. s.now) c.args.words.now.old)
    c.in-Err.refusal _ _ _ _ c.answer_refusal.result c.in-Err.ensures (keeps-refl _) c.answer_refusal.ensures
