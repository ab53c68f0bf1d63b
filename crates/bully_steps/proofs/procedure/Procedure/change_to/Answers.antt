-- The next point is one of the node's, and the procedure made there is the definition's.
use Rattle.std.proofs.Common.{◌≡◌, Some, arith}
use Rattle.bully_steps.specs.PointKind.{point_at}
use Rattle.bully_steps.specs.Procedure.{state_of}
use Rattle.bully_steps.specs.ProcedureState.{next_of}
use Rattle.bully_steps.proofs.ResumeLemmas.{lands, next_is_point, resumed_up_falls, resumed_is, inquiry_goes_on, call_goes_on}
use Rattle.bully_steps.proofs.procedure.Procedure.change_to.Goals as goal
use Rattle.bully_steps.proofs.procedure.Procedure.change_to.Goals.{After-is_started}

-- the next point is that of the next kind with the nodes that are left
landed : (c : After-is_started) → next_of (state_of c.args.self.now) c.args.outcome ≡ Some (point_at c.args.next c.change_left.new.left)
landed c =
    grind (arith, lands (state_of c.args.self.now) c.nodes_in-left.result c.args.outcome c.args.next, c.requires.next, c.change_left.ensures, c.kind.ensures, c.nodes_in-left.ensures, c.up_after-up.ensures, c.left.ensures.point)

pub go_to-requires-clause-up : goal.go_to-requires-clause-up
go_to-requires-clause-up c =
    grind (arith, c.up_after-up.ensures, resumed_up_falls (state_of c.args.self.now) c.args.outcome c.requires.state)

pub go_to-requires-clause-point : goal.go_to-requires-clause-point
go_to-requires-clause-point c =
    next_is_point (state_of c.args.self.now) c.args.outcome (point_at c.args.next c.change_left.new.left) c.requires.state (landed c)

pub go_to-requires-clause-inquiry : goal.go_to-requires-clause-inquiry
go_to-requires-clause-inquiry c =
    grind (arith, c.coordinator-coordinator.ensures, inquiry_goes_on (state_of c.args.self.now) c.args.outcome (point_at c.args.next c.change_left.new.left) c.requires.state (landed c))

pub go_to-requires-clause-call : goal.go_to-requires-clause-call
go_to-requires-clause-call c =
    grind (arith, c.coordinator-coordinator.ensures, c.is_started.ensures, call_goes_on (state_of c.args.self.now) c.args.outcome (point_at c.args.next c.change_left.new.left) c.requires.state c.requires.can (landed c))

pub returns : goal.returns
returns c =
    grind (arith, resumed_is (state_of c.args.self.now) (state_of c.go_to.new.self) c.args.outcome (point_at c.args.next c.change_left.new.left) c.up_after-up.result (state_of c.args.self.now).coordinator c.is_started.result, landed c.before, c.go_to.ensures, c.coordinator-coordinator.ensures, c.is_started.ensures, c.up_after-up.ensures)
