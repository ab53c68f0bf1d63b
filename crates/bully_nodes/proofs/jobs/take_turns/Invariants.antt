use Rattle.std.proofs.Common.{◌≡◌, ◌+◌}
use Rattle.bully_group.specs.Locked.{IsLocked}
use Rattle.bully_nodes.specs.Run.{IsRoleOf, procedure_of, first_of, ActorsTurns}
use Rattle.bully_nodes.proofs.jobs.take_turns.Given as goal

abbrev pub invariant-loop-before : goal.invariant-loop-before
invariant-loop-before g l = record {
  role : IsRoleOf l.config (l.before + 1) l.role;
  turns : ActorsTurns (IsLocked g.L.Naming.setup g.L.Naming.publisher g.L.Ledger.parts) l.config l.before 1 (record { seat = l.fn.access.seat; counted = l.fn.access.pass }) (first_of l.config.setup l.fn.access.seat.actor) (record { seat = l.access.seat; counted = l.access.pass }) (procedure_of l.role);
  end : l.before-end ≡ l.config.turns;
}
