use Rattle.bully_group.specs.Locked.{IsLocked}
use Rattle.bully_nodes.proofs.RunLemmas.{in_hold, check_in_hold, timeout_in_hold}
use Rattle.bully_steps.specs.Procedure.{state_of}
use Rattle.bully_nodes.proofs.access.carry_out_at.Goals as goal

pub returns-in-Check-clause-takes : goal.returns-in-Check-clause-takes
returns-in-Check-clause-takes g c =
    check_in_hold (IsLocked g.L.Naming.setup g.L.Naming.publisher g.L.Ledger.parts) c.args.choice _ _ _ _ (state_of c.args.procedure.now) c.history.ensures.locked c.serve_or_apply.result c.node-node.result c.in-Check.is c.node-node.ensures.node c.serve_or_apply.ensures

pub returns-in-Timeout-clause-takes : goal.returns-in-Timeout-clause-takes
returns-in-Timeout-clause-takes g c =
    timeout_in_hold (IsLocked g.L.Naming.setup g.L.Naming.publisher g.L.Ledger.parts) c.args.choice _ _ _ _ (state_of c.args.procedure.now) c.history.ensures.locked c.serve_or_apply-in-Timeout.result c.node-node.result c.in-Timeout.is c.node-node.ensures.node c.serve_or_apply-in-Timeout.ensures

pub returns-in-Proceed-clause-takes : goal.returns-in-Proceed-clause-takes
returns-in-Proceed-clause-takes g c =
    in_hold (IsLocked g.L.Naming.setup g.L.Naming.publisher g.L.Ledger.parts) c.args.choice _ _ _ _ (state_of c.args.procedure.now) c.history.ensures.locked c.serve_or_proceed.result (state_of c.serve_or_proceed.new.procedure) c.in-Proceed.is c.serve_or_proceed.ensures.takes
