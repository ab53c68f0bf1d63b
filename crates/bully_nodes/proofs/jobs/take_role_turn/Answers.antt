use Rattle.bully_group.specs.Locked.{IsLocked}
use Rattle.bully_nodes.proofs.RunLemmas.{operator_turned, node_turned}
use Rattle.bully_steps.specs.Procedure.{state_of}
use Rattle.bully_nodes.proofs.jobs.take_role_turn.Goals as goal

pub returns-in-Operator-clause-turn : goal.returns-in-Operator-clause-turn
returns-in-Operator-clause-turn g c =
    operator_turned c.take_operator_turn.result (IsLocked g.L.Naming.setup g.L.Naming.publisher g.L.Ledger.parts) c.args.config.now c.args.turn c.args.role.now _ c.args.access.now c.take_operator_turn.new.backend (λ p. record { seat = p.seat; counted = p.pass }) c.in-Operator.is c.requires.role c.take_operator_turn.ensures.operates

pub returns-in-Node-clause-turn : goal.returns-in-Node-clause-turn
returns-in-Node-clause-turn g c =
    node_turned c.take_node_turn.result (IsLocked g.L.Naming.setup g.L.Naming.publisher g.L.Ledger.parts) c.args.config.now c.period.result c.args.turn c.args.role.now _ (state_of c.take_node_turn.new.procedure) c.args.access.now c.take_node_turn.new.backend (λ p. record { seat = p.seat; counted = p.pass }) c.in-Node.is c.period.ensures.period c.take_node_turn.ensures.turn
