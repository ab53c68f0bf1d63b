use Rattle.std.proofs.Common.{◌≡◌, ℕ, List, arith, subst}
use Rattle.bully_config.specs.declared.config.Fault.{Fault}
use Rattle.bully_group.specs.Locked.{IsLocked}
use Rattle.bully_nodes.proofs.RunLemmas.{actors_turns_keep}
use Rattle.bully_nodes.specs.Run.{IsGivenBack, procedure_of, first_of, ActorsTurns}
use Rattle.bully_nodes.proofs.jobs.take_turns.Goals as goal

pub returns-clause-turns : goal.returns-clause-turns
returns-clause-turns g c =
    let all : c.loop-before.before ≡ c.args.config.now.turns = grind (arith, c.loop-before-test.false, c.loop-before.auto.before-end, c.turns-before-end.ensures.turns) in
    (procedure_of c.loop-before.role, subst (λ (n : ℕ). ActorsTurns (IsLocked g.L.Naming.setup g.L.Naming.publisher g.L.Ledger.parts) c.args.config.now n 1 (record { seat = c.args.access.now.seat; counted = c.args.access.now.pass }) (first_of c.args.config.now.setup c.args.access.now.seat.actor) (record { seat = c.loop-before.access.seat; counted = c.loop-before.access.pass }) (procedure_of c.loop-before.role)) all c.loop-before.invariant.turns)

pub returns-clause-kept : goal.returns-clause-kept
returns-clause-kept g c =
    λ actor. subst (λ (faults : List Fault). IsGivenBack faults actor (record { seat = c.args.access.now.seat; counted = c.args.access.now.pass }) → IsGivenBack faults actor (record { seat = c.loop-before.access.seat; counted = c.loop-before.access.pass })) c.requires.faults
    (actors_turns_keep (IsLocked g.L.Naming.setup g.L.Naming.publisher g.L.Ledger.parts) c.args.config.now actor c.loop-before.before 1 _ _ _ _ c.loop-before.invariant.turns)
