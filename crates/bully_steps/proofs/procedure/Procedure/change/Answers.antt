-- A point follows, of the kind that is found.
use Rattle.std.proofs.Common.{[], arith, unwrap_or}
use Rattle.bully_steps.specs.Procedure.{state_of}
use Rattle.bully_steps.proofs.ResumeLemmas.{next_comes}
use Rattle.bully_steps.proofs.procedure.Procedure.change.Goals as goal

pub unwrap-next-requires : goal.unwrap-next-requires
unwrap-next-requires c = grind (arith, next_comes (state_of c.args.self.now) c.args.outcome c.node.ensures.state c.requires, c.next.ensures, c.kind.ensures, c.left.ensures.point)

pub change_to-requires-clause-next : goal.change_to-requires-clause-next
change_to-requires-clause-next c =
    grind (arith, c.next.ensures (unwrap_or (state_of c.args.self.now).up []), c.kind.ensures, c.left.ensures.point, c.unwrap-next.ensures, c.setup.ensures.setup, c.node.ensures.node)
