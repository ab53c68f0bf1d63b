-- What the outcome makes of the procedure is one of the node's.
use Rattle.std.proofs.Common.{◌≡◌, Some, [], arith, None, unwrap_or, option_map}
use Rattle.bully_steps.specs.declared.point.Point.{Point}
use Rattle.bully_steps.specs.PointKind.{kind_of}
use Rattle.bully_steps.specs.Procedure.{state_of}
use Rattle.bully_steps.specs.ProcedureState.{next_of, resumed}
use Rattle.bully_steps.specs.States.{state_at}
use Rattle.bully_steps.proofs.ResumeLemmas.{next_comes, next_stands, goes_on}
use Rattle.bully_steps.proofs.procedure.Procedure.stay.Goals as goal

pub unwrap-next-requires : goal.unwrap-next-requires
unwrap-next-requires c = grind (arith, next_comes (state_of c.args.self.now) c.args.outcome c.node.ensures.state c.requires, c.next.ensures, c.kind.ensures, c.left.ensures.point)

pub invariant_of-asking : goal.invariant_of-asking
invariant_of-asking c =
    let next : option_map kind_of (next_of (state_of c.args.self.now) c.args.outcome) ≡ Some c.unwrap-next.result =
    grind (arith, c.next.ensures (unwrap_or (state_of c.args.self.now).up []), c.kind.ensures, c.left.ensures.point, c.unwrap-next.ensures, c.setup.ensures.setup, c.node.ensures.node) in
    let same : state_at c.asking.inside.identity (Point.Asking c.in-Asking-Asking.number) [] None c.is_started-awaits.result ≡ resumed (state_of c.args.self.now) c.args.outcome = grind (arith, next, c.is_started-awaits.ensures, c.in-Asking-Asking.is-0, c.in-Asking-Asking.is-1, c.asking.view_is) in
    goes_on (state_of c.args.self.now) (state_at c.asking.inside.identity (Point.Asking c.in-Asking-Asking.number) [] None c.is_started-awaits.result) c.args.outcome c.unwrap-next.result c.node.ensures.state c.requires next same

pub invariant_of-announcing : goal.invariant_of-announcing
invariant_of-announcing c =
    let next : option_map kind_of (next_of (state_of c.args.self.now) c.args.outcome) ≡ Some c.unwrap-next.result =
    grind (arith, c.next.ensures (unwrap_or (state_of c.args.self.now).up []), c.kind.ensures, c.left.ensures.point, c.unwrap-next.ensures, c.setup.ensures.setup, c.node.ensures.node) in
    let same : state_at c.announcing.inside.identity (Point.Announcing c.leave_answered.new.left) c.announcing.inside.held.up None c.is_started-awaits.result ≡ resumed (state_of c.args.self.now) c.args.outcome = grind (arith, next, c.is_started-awaits.ensures, c.in-Announcing-Announcing.is-0, c.in-Announcing-Announcing.is-1, c.announcing.view_is, c.leave_answered.ensures) in
    goes_on (state_of c.args.self.now) (state_at c.announcing.inside.identity (Point.Announcing c.leave_answered.new.left) c.announcing.inside.held.up None c.is_started-awaits.result) c.args.outcome c.unwrap-next.result c.node.ensures.state c.requires next same

pub invariant_of-readying : goal.invariant_of-readying
invariant_of-readying c =
    let next : option_map kind_of (next_of (state_of c.args.self.now) c.args.outcome) ≡ Some c.unwrap-next.result =
    grind (arith, c.next.ensures (unwrap_or (state_of c.args.self.now).up []), c.kind.ensures, c.left.ensures.point, c.unwrap-next.ensures, c.setup.ensures.setup, c.node.ensures.node) in
    let same : state_at c.readying.inside.identity (Point.Readying c.leave_answered-in-Readying-Readying.new.left) [] None c.is_started-awaits.result ≡ resumed (state_of c.args.self.now) c.args.outcome = grind (arith, next, c.is_started-awaits.ensures, c.in-Readying-Readying.is-0, c.in-Readying-Readying.is-1, c.readying.view_is, c.leave_answered-in-Readying-Readying.ensures) in
    goes_on (state_of c.args.self.now) (state_at c.readying.inside.identity (Point.Readying c.leave_answered-in-Readying-Readying.new.left) [] None c.is_started-awaits.result) c.args.outcome c.unwrap-next.result c.node.ensures.state c.requires next same

pub invariant_of-checking : goal.invariant_of-checking
invariant_of-checking c =
    let next : option_map kind_of (next_of (state_of c.args.self.now) c.args.outcome) ≡ Some c.unwrap-next.result =
    grind (arith, c.next.ensures (unwrap_or (state_of c.args.self.now).up []), c.kind.ensures, c.left.ensures.point, c.unwrap-next.ensures, c.setup.ensures.setup, c.node.ensures.node) in
    let same : state_at c.checking.inside.identity (Point.Checking c.in-Checking-Checking.callee) [] None c.is_started-awaits.result ≡ resumed (state_of c.args.self.now) c.args.outcome = grind (arith, next, c.is_started-awaits.ensures, c.in-Checking-Checking.is-0, c.in-Checking-Checking.is-1, c.checking.view_is) in
    goes_on (state_of c.args.self.now) (state_at c.checking.inside.identity (Point.Checking c.in-Checking-Checking.callee) [] None c.is_started-awaits.result) c.args.outcome c.unwrap-next.result c.node.ensures.state c.requires next same

pub halt_next-requires-clause-next : goal.halt_next-requires-clause-next
halt_next-requires-clause-next c =
    let next : option_map kind_of (next_of (state_of c.args.self.now) c.args.outcome) ≡ Some c.unwrap-next.result =
    grind (arith, c.next.ensures (unwrap_or (state_of c.args.self.now).up []), c.kind.ensures, c.left.ensures.point, c.unwrap-next.ensures, c.setup.ensures.setup, c.node.ensures.node) in
    grind (arith, next, c.in-Halting-Halting.is-0, c.in-Halting-Halting.is-1)

pub returns-clause-point : goal.returns-clause-point
returns-clause-point c = next_stands (state_of c.args.self.now) c.args.outcome c.node.ensures.state c.requires
