-- A number above the last node has no vector of its own: it is Down.
use Rattle.std.proofs.Common.{◌≡◌, ◌<◌, ℕ, true, arith, ap, ⊎_elim}
use Rattle.bully_base.specs.Setup.{IsNode}
use Rattle.bully_base.specs.declared.node.Status.TheVariants.{Down}
use Rattle.bully_handlers.specs.Vector.{is_down}
use Rattle.bully_world.specs.Cause.{is_down_at}
use Rattle.bully_world.specs.State.{WorldState, IsReached, world_of}
use Rattle.bully_world.specs.World.{vector}
use Rattle.bully_world.proofs.NodeInvariantLemmas.{lawful_fits}

pub status_beyond : (w : WorldState) (i : ℕ) → IsReached w → w.setup.nodes < i → (vector (world_of w) i).status ≡ Down
status_beyond w i r above = ⊎_elim (λ d. d) (λ (n : IsNode w.setup i). absurd (omega (arith, n.1, above))) ((lawful_fits w.setup r.applied r.answers (world_of w) r.lawful).fits i).a_node

pub down_beyond : (w : WorldState) (i : ℕ) → IsReached w → w.setup.nodes < i → is_down_at (world_of w) i ≡ true
down_beyond w i r above = ap is_down (status_beyond w i r above)
