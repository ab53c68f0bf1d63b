use Rattle.std.proofs.Common.{arith}
use Rattle.bully_steps.proofs.ResumeLemmas.{joined_is}
use Rattle.bully_steps.proofs.procedure.Procedure.up_after.Goals as goal

pub returns-in-Halting : goal.returns-in-Halting
returns-in-Halting c =
    grind (arith, c.in-Halting.is, c.if-eq.true, c.eq.ensures, c.joined.ensures.joined, joined_is c.in-Halting.halting.identity.node c.in-Halting.halting.held.next c.in-Halting.halting.held.up c.joined.ensures.positive)
