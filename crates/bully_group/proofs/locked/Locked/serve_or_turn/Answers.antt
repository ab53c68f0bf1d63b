-- Where no call is served, the turn of the procedure is all that happens.
use Rattle.std.proofs.Common.{rules, Bool, false, subst}
use Rattle.bully_steps.specs.Procedure.{state_of}
use Rattle.bully_group.specs.Steps.{IsServe}
use Rattle.bully_group.specs.Turns.{MayTurn}
use Rattle.bully_group.proofs.TurnLemmas.{turn_alone, fault_alone}
use Rattle.bully_group.proofs.locked.Locked.serve_or_turn.Goals as goal

pub returns-clause-turn : goal.returns-clause-turn
returns-clause-turn g c =
    let s = c.args.self.now in
    let seat = c.args.seat.now in
    let none : IsServe s seat c.serve_node.new.self c.serve_node.new.seat false = subst (λ (b : Bool). IsServe s seat c.serve_node.new.self c.serve_node.new.seat b) c.if-branch.false c.in_ok-serve_node.ensures.served in
    turn_alone s c.serve_node.new.self seat c.serve_node.new.seat (state_of c.args.procedure.now) none.2 none.3 none.1 c.turn_known.new.self c.turn_known.new.seat (state_of c.turn_known.new.procedure) c.turn_known.result c.turn_known.ensures.turn

pub returns-clause-fault : goal.returns-clause-fault
returns-clause-fault g c =
    let s = c.args.self.now in
    let seat = c.args.seat.now in
    let none : IsServe s seat c.serve_node.new.self c.serve_node.new.seat false = subst (λ (b : Bool). IsServe s seat c.serve_node.new.self c.serve_node.new.seat b) c.if-branch.false c.in_ok-serve_node.ensures.served in
    let may : MayTurn s seat (state_of c.args.procedure.now) = search rules in
    fault_alone s c.serve_node.new.self seat c.serve_node.new.seat (state_of c.args.procedure.now) none.2 none.3 none.1 c.turn_known.result may c.turn_known.ensures.fault
