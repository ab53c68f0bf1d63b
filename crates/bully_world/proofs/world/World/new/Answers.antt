use Rattle.std.proofs.Common.{◌≡◌, sym, ◌∙◌, ap, subst, [], replicate}
use Rattle.bully_world.specs.State.{IsWorld, world_in, new_states}
use Rattle.bully_world.specs.Waiting.{IsWaiting}
use Rattle.bully_world.proofs.WaitingLemmas.{first_waiting}
use Rattle.bully_world.proofs.WorldLemmas.{first_is, first_keeps}
use Rattle.bully_world.proofs.world.World.new.Goals as goal

pub invariant_of-result : goal.invariant_of-result
invariant_of-result c =
    let made : c.in_ok-reserve.field-0.items ≡ new_states c.args.setup = c.in_ok-reserve.ensures in
    let nobody : c.in_ok-new.field-0 ≡ replicate c.args.setup.nodes [] = c.in_ok-new.ensures in (
      subst (λ ms. IsWorld (record { setup = c.args.setup; events = 0; states = ms })) (sym made) (first_keeps c.args.setup),
      subst (λ ms. IsWaiting ms c.in_ok-new.field-0) (sym made) (subst (IsWaiting (new_states c.args.setup)) (sym nobody) (first_waiting c.args.setup)),
    )

pub returns-clause-first : goal.returns-clause-first
returns-clause-first c =
    let made : c.in_ok-reserve.field-0.items ≡ new_states c.args.setup = c.in_ok-reserve.ensures in
    ap world_in made ∙ first_is c.args.setup
