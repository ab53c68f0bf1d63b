-- A call's start, its phases and its being taken out keep what holds of its caller.
use Rattle.std.proofs.Common.{◌≡◌, ◌≢◌, ℕ, Some, None, arith, refl}
use Rattle.bully_base.specs.declared.node.Status.TheVariants.{Down}
use Rattle.bully_base.specs.Setup.{Setup, IsNode}
use Rattle.bully_calls.specs.declared.call.Call.{Call}
use Rattle.bully_calls.specs.declared.call.Phase.{Phase}
use Rattle.bully_calls.specs.Pending.{Pending}
use Rattle.bully_handlers.specs.Vector.{Vector}
use Rattle.bully_steps.specs.declared.point.Point.{Point}
use Rattle.bully_steps.specs.declared.point.Want.{Want}
use Rattle.bully_steps.specs.Point.{offered, IsPointOf}
use Rattle.bully_world.specs.NodeInvariant.{NodeInvariant, WorldInvariant, SuitsSetup, SuitsPoint, SuitsCallee, SuitsTable, SuitsPhase}
use Rattle.bully_world.specs.Step.{sent, carried, with_phase, emptied}
use Rattle.bully_world.specs.World.{World, NodeState, node_state, pending}
use Rattle.bully_world.proofs.NodeStateLemmas.{node_of_fits, up_of_fits, call_of_fits, node_of_pending, written_fits}

-- the call that a point offers

offered_node : (setup : Setup) (i : ℕ) (v : Vector) (p : Point) (call : Call) → IsNode setup i → SuitsSetup setup i v → IsPointOf setup i p → SuitsPoint i v p → offered setup v.coordinator p ≡ Want.Start call → IsNode setup call.callee
offered_node setup i v p call node by_setup is_point suits offers = grind (arith, node, is_point, suits, offers, by_setup.coordinator)

offered_callee : (setup : Setup) (i : ℕ) (v : Vector) (p : Point) (call : Call) → IsPointOf setup i p → SuitsPoint i v p → offered setup v.coordinator p ≡ Want.Start call → SuitsCallee i call.kind call.callee
offered_callee setup i v p call is_point suits offers = grind (arith, is_point, suits, offers)

offered_table : (setup : Setup) (i : ℕ) (v : Vector) (p : Point) (call : Call) → SuitsSetup setup i v → SuitsPoint i v p → offered setup v.coordinator p ≡ Want.Start call → SuitsTable setup call.kind (carried call.kind v)
offered_table setup i v p call by_setup suits offers = grind (arith, suits, offers, by_setup.task)

pub start_fits : (setup : Setup) (i : ℕ) (m : NodeState) (call : Call) → NodeInvariant setup i m → m.vector.status ≢ Down → offered setup m.vector.coordinator m.point ≡ Want.Start call → NodeInvariant setup i (record m { pending = Some (sent call m.vector) })
start_fits setup i m call fits up offers = record {
  a_node = fits.a_node;
  down_idle = fits.down_idle;
  down_free = λ d. absurd (up d);
  is_point = fits.is_point;
  by_setup = fits.by_setup;
  by_point = fits.by_point;
  by_call = record {
    live = λ e. offers;
    orphan = λ e. absurd (grind arith);
    to_node = offered_node setup i m.vector m.point call (node_of_fits setup i m fits up) fits.by_setup fits.is_point fits.by_point offers;
    callee = offered_callee setup i m.vector m.point call fits.is_point fits.by_point offers;
    table = offered_table setup i m.vector m.point call fits.by_setup fits.by_point offers;
    phase = tt;
  };
}

-- the call comes to another phase
pub phase_fits : (setup : Setup) (i : ℕ) (m : NodeState) (c : Pending) (f : Phase) → NodeInvariant setup i m → m.pending ≡ Some c → SuitsPhase c.call.kind f → NodeInvariant setup i (record m { pending = Some (record c { phase = f }) })
phase_fits setup i m c f fits is suits =
    let s = call_of_fits setup i m c fits is in
    record {
      a_node = fits.a_node;
      down_idle = fits.down_idle;
      down_free = λ d. absurd (up_of_fits setup i m c fits is d);
      is_point = fits.is_point;
      by_setup = fits.by_setup;
      by_point = fits.by_point;
      by_call = record { live = s.live; orphan = s.orphan; to_node = s.to_node; callee = s.callee; table = s.table; phase = suits };
    }

-- the call is taken out
pub free_fits : (setup : Setup) (i : ℕ) (m : NodeState) → NodeInvariant setup i m → NodeInvariant setup i (record m { pending = None })
free_fits setup i m fits = record {
  a_node = fits.a_node;
  down_idle = fits.down_idle;
  down_free = λ d. refl;
  is_point = fits.is_point;
  by_setup = fits.by_setup;
  by_point = fits.by_point;
  by_call = tt;
}

-- the call of node i comes to another phase
pub with_phase_fits : (setup : Setup) (w : World) (i : ℕ) (c : Pending) (f : Phase) → WorldInvariant setup w → pending w i ≡ Some c → SuitsPhase c.call.kind f → WorldInvariant setup (with_phase w i c f)
with_phase_fits setup w i c f all is suits =
    written_fits setup w i _ all (node_of_pending setup w i c all is).0 (phase_fits setup i (node_state w i) c f (all.fits i) is suits)

-- the call of node i is taken out
pub emptied_fits : (setup : Setup) (w : World) (i : ℕ) (c : Pending) → WorldInvariant setup w → pending w i ≡ Some c → WorldInvariant setup (emptied w i)
emptied_fits setup w i c all is = written_fits setup w i _ all (node_of_pending setup w i c all is).0 (free_fits setup i (node_state w i) (all.fits i))
