use Rattle.bully_nodes.proofs.RunLemmas.{turned}
use Rattle.bully_steps.specs.Procedure.{state_of}
use Rattle.bully_nodes.proofs.access.serve_or_proceed.Goals as goal

pub returns-in_default-2-clause-takes : goal.returns-in_default-2-clause-takes
returns-in_default-2-clause-takes g c =
    turned _ c.serve_or_turn.new.self c.args.seat.now c.serve_or_turn.new.seat (state_of c.args.procedure.now) (state_of c.serve_or_turn.new.procedure) c.args.pass.now c.serve_or_turn.new.pass c.serve_or_turn.result c.requires.node
    c.serve_or_turn.ensures.turn c.serve_or_turn.ensures.fault c.serve_or_turn.ensures.unchanged c.serve_or_turn.ensures.pass
