-- What a world keeps of its nodes holds of this one.
use Rattle.std.proofs.Common.{◌≡◌, arith, subst, slice_index_or}
use Rattle.bully_world.specs.NodeInvariant.{NodeInvariant}
use Rattle.bully_world.specs.State.{WorldState, IsKept, IsWorld, node_state_of, state_at}
use Rattle.bully_world.proofs.TurnLemmas.{node_fits}
use Rattle.bully_world.proofs.WorldLemmas.{node_state_there}
use Rattle.bully_world.proofs.world.World.node_state.Goals as goal
use Rattle.bully_world.proofs.world.World.node_state.Goals.{After-index}

is_world : (c : After-index) → IsWorld c.args.self.now
is_world c = subst IsWorld c.self.view_is c.self.invariant.0

there : (c : After-index) → state_at c.args.self.now c.args.node ≡ c.index.result.now
there c =
    let stands = subst (λ (w : WorldState). c.index.result.now ≡ slice_index_or w.states c.place_of.result c.index.result.now) c.self.view_is c.index.ensures in
    node_state_there c.args.self.now c.place_of.result c.args.node c.index.result.now (is_world c) c.place_of.ensures c.requires stands

pub returns-clause-kept : goal.returns-clause-kept
returns-clause-kept c =
    let w = c.args.self.now in
    subst (IsKept w.setup w.events c.args.node) (there c) ((is_world c).kept c.args.node (omega (arith, c.place_of.ensures), c.requires))

pub returns-clause-fits : goal.returns-clause-fits
returns-clause-fits c =
    let w = c.args.self.now in
    subst (λ m. NodeInvariant w.setup c.args.node (node_state_of m)) (there c) (node_fits w (is_world c).reached c.args.node)
