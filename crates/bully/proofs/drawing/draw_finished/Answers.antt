use Rattle.std.proofs.Common.{inl, string_bytes, rules}
use Rattle.bully.proofs.drawing.draw_finished.Goals as goal

pub returns-in-Ok-clause-answer : goal.returns-in-Ok-clause-answer
returns-in-Ok-clause-answer g c = inl (string_bytes c.in-Ok.picture, c.in-Ok.ensures, search rules)
