use Rattle.std.proofs.Common.{arith}
use Rattle.bully_play.proofs.ScheduleLemmas.{none_in, operates_same, operates_none}
use Rattle.bully_play.proofs.turns.take_operator_turn.Goals as goal

pub returns-clause-operates : goal.returns-clause-operates
returns-clause-operates g c =
    λ faults are. operates_same g.S.Backend.applies c.args.turn c.args.schedule.now faults c.args.backend.now c.loop-fault.backend (are c.args.turn (omega arith))
    (c.loop-fault.invariant.operates c.loop-fault.backend (operates_none g.S.Backend.applies c.args.turn c.loop-fault.schedule c.loop-fault.backend (none_in c.args.turn c.args.turn c.loop-fault.schedule (omega arith) c.in_default.ensures.1)))
