use Rattle.std.proofs.Common.{sym, subst}
use Rattle.bully_world.specs.NodeInvariant.{WorldInvariant}
use Rattle.bully_world.specs.State.{world_in}
use Rattle.bully_world.proofs.WorldLemmas.{world_fits}
use Rattle.bully_world.proofs.world.World.cause.Goals as goal

pub cause_of-requires : goal.cause_of-requires
cause_of-requires c =
    subst (λ ms. WorldInvariant c.self.inside.setup (world_in ms)) (sym c.as_slice.ensures.value) (world_fits c.self.inside.setup c.self.inside.events c.self.inside.states.items c.self.invariant.0)
