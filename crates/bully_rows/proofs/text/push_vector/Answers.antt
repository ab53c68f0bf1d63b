use Rattle.std.proofs.Common.{append_assoc, arith}
use Rattle.std.proofs.lemmas.Grind.{common_steps}
use Rattle.bully_rows.proofs.text.push_vector.Goals as goal

pub returns : goal.returns
returns c = grind (arith, common_steps, append_assoc, c.in_ok-push_claim.ensures, c.in_ok-push_rest.ensures, c.push.ensures.bytes)
