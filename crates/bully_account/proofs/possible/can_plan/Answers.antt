-- The procedure that the world shows of the node is prepared; where it then has a table, that is one that may be planned.
use Rattle.std.proofs.Common.{◌≡◌, ◌∙◌, Some, None, ap, rules}
use Rattle.bully_steps.specs.Prepared.{prepared_from}
use Rattle.bully_steps.specs.Procedure.{state_of}
use Rattle.bully_steps.specs.ProcedureState.{IsProcedureState, ProcedureState}
use Rattle.bully_world.specs.State.{node_state_of, state_at}
use Rattle.bully_world.specs.Cause.{is_live_in}
use Rattle.bully_world.specs.Turn.{procedure_in}
use Rattle.bully_account.proofs.PossibleLemmas.{no-plan, plan-possible, prepared-over, unprepared}
use Rattle.bully_account.proofs.possible.can_plan.Goals as goal

pub returns-in-Some : goal.returns-in-Some
returns-in-Some c =
    let w = c.args.world.now in
    let i = c.args.node in
    let s = state_at w i in
    let m = node_state_of s in
    let shown : state_of c.prepare.new.self ≡ prepared_from None (procedure_in w i) =
    c.in_ok-prepare.ensures.prepared ∙ ap (λ (h : ProcedureState). prepared_from None h) c.procedure-procedure.ensures.state in
    let is : IsProcedureState (prepared_from None (procedure_in w i)) = rw shown at c.node-planner.ensures.state in
    let told : (prepared_from None (procedure_in w i)).table ≡ Some c.in-Some.table.now = search rules in
    let over = prepared-over w.setup i s.generation m.point m.vector.up m.vector.coordinator (is_live_in m.pending) c.in-Some.table.now is told in
    plan-possible w i c.in-Some.table.now c.is_none.result c.reached.ensures over (search rules)

pub returns : goal.returns
returns c =
    let w = c.args.world.now in
    let i = c.args.node in
    let s = state_at w i in
    let m = node_state_of s in
    let shown : state_of c.prepare.new.self ≡ prepared_from None (procedure_in w i) =
    c.in_ok-prepare.ensures.prepared ∙ ap (λ (h : ProcedureState). prepared_from None h) c.procedure-procedure.ensures.state in
    let none : (prepared_from None (procedure_in w i)).table ≡ None = search rules in
    no-plan w i c.reached.ensures (unprepared w.setup i s.generation m.point m.vector.up m.vector.coordinator (is_live_in m.pending) none)
