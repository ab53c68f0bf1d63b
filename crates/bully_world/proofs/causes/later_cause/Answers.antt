-- The tests of a Run and of a Lose are those of the definitions at the node state of the event's node.
use Rattle.std.proofs.Common.{◌≡◌, ℕ, arith, refl, subst}
use Rattle.bully_calls.specs.declared.event.Event.{Event}
use Rattle.bully_calls.specs.Events.{node_of}
use Rattle.bully_world.specs.Cause.{IsToldByNode}
use Rattle.bully_world.specs.NodeInvariant.{NodeInvariant}
use Rattle.bully_world.specs.State.{node_state_of, world_in}
use Rattle.bully_world.proofs.CauseAt.{named_is, at_event, callee-within}
use Rattle.bully_world.proofs.Events.Running.{run-cause}
use Rattle.bully_world.proofs.Events.Losing.{lose-cause}
use Rattle.bully_world.proofs.causes.later_cause.Goals as goal

told_by_node : (e : Event) → ((i : ℕ) → e ≡ Event.Run i → ⊥) → ((i : ℕ) → e ≡ Event.Lose i → ⊥) → IsToldByNode e
told_by_node (Event.Run i) run lose = absurd (run i refl)
told_by_node (Event.Lose i) run lose = absurd (lose i refl)
told_by_node e run lose = tt

pub own_cause-requires-clause-own : goal.own_cause-requires-clause-own
own_cause-requires-clause-own c = told_by_node c.args.event.now c.in_default.not-Run c.in_default.not-Lose

pub own_cause-requires-clause-fits : goal.own_cause-requires-clause-fits
own_cause-requires-clause-fits c = subst (NodeInvariant c.args.setup.now (node_of c.args.event.now)) c.requires.named (c.requires.fits.fits (node_of c.args.event.now))

pub returns-in_default : goal.returns-in_default
returns-in_default c = λ count. c.own_cause.ensures (world_in c.args.states.now) count c.requires.named

pub run_cause-requires : goal.run_cause-requires
run_cause-requires c =
    let here = named_is (world_in c.args.states.now) (node_state_of c.args.named.now) c.args.event.now (Event.Run c.in-Run.field-0) c.in-Run.is c.requires.named in
    callee-within c.args.setup.now c.args.states.now c.in-Run.field-0 c.args.named.now c.requires.fits here

pub lose_cause-requires : goal.lose_cause-requires
lose_cause-requires c =
    let here = named_is (world_in c.args.states.now) (node_state_of c.args.named.now) c.args.event.now (Event.Lose c.in-Lose.field-0) c.in-Lose.is c.requires.named in
    callee-within c.args.setup.now c.args.states.now c.in-Lose.field-0 c.args.named.now c.requires.fits here

pub returns-in-Run : goal.returns-in-Run
returns-in-Run c =
    let here = named_is (world_in c.args.states.now) (node_state_of c.args.named.now) c.args.event.now (Event.Run c.in-Run.field-0) c.in-Run.is c.requires.named in
    λ count. at_event c.args.setup.now (world_in c.args.states.now) count c.args.event.now (Event.Run c.in-Run.field-0) _ c.in-Run.is (grind (arith, run-cause c.args.setup.now (world_in c.args.states.now) count c.in-Run.field-0 (node_state_of c.args.named.now) here, c.run_cause.ensures))

pub returns-in-Lose : goal.returns-in-Lose
returns-in-Lose c =
    let here = named_is (world_in c.args.states.now) (node_state_of c.args.named.now) c.args.event.now (Event.Lose c.in-Lose.field-0) c.in-Lose.is c.requires.named in
    λ count. at_event c.args.setup.now (world_in c.args.states.now) count c.args.event.now (Event.Lose c.in-Lose.field-0) _ c.in-Lose.is (grind (arith, lose-cause c.args.setup.now (world_in c.args.states.now) count c.in-Lose.field-0 (node_state_of c.args.named.now) here, c.lose_cause.ensures))
