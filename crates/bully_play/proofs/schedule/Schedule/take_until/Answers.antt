use Rattle.std.proofs.Common.{arith, refl}
use Rattle.bully_play.proofs.ScheduleLemmas.{all_later}
use Rattle.bully_play.proofs.schedule.Schedule.take_until.Goals as goal

pub returns-then-fault-turn : goal.returns-then-fault-turn
returns-then-fault-turn c =
    let faults = c.self.inside.faults.items in
    (refl, rw (← c.self.view_is) (all_later faults c.self.inside.next c.args.turn c.index-fault.result.now c.self.invariant.0 (omega arith) c.index-fault.ensures c.if-fault-turn.true))
