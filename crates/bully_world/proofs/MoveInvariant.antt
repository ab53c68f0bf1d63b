-- A procedure that goes on by an outcome, or by a plan, keeps what holds of its node.
use Rattle.std.proofs.Common.{◌≡◌, ◌≢◌, ℕ, List, length, Option, Some, None, arith, refl, inr}
use Rattle.bully_base.specs.declared.node.Status.TheVariants.{Down}
use Rattle.bully_base.specs.NodeSet.{IsFallingBelow}
use Rattle.bully_base.specs.Setup.{Setup, IsNode}
use Rattle.bully_base.proofs.NodeSetLemmas.{with_node-falling}
use Rattle.bully_calls.specs.declared.call.Outcome.{Outcome}
use Rattle.bully_handlers.specs.Vector.{Vector}
use Rattle.bully_steps.specs.declared.point.Point.{Point}
use Rattle.bully_steps.specs.declared.point.Point.TheVariants.{Planning, Readying}
use Rattle.bully_steps.specs.NextPoint.{next_point, next_vector}
use Rattle.bully_steps.specs.Point.{IsPointOf}
use Rattle.bully_steps.proofs.ResumeLemmas.{point_follows}
use Rattle.bully_world.specs.NodeInvariant.{NodeInvariant, WorldInvariant, SuitsSetup, SuitsPoint}
use Rattle.bully_world.specs.World.{World, NodeState, node_state}
use Rattle.bully_world.specs.Step.{IsUp, Proceeds}
use Rattle.bully_world.proofs.NodeStateLemmas.{node_of_fits, node_of_up, written_fits}

module _ (setup : Setup) (i : ℕ) (v : Vector) (p : Point) (o : Outcome) (q : Point) (node : IsNode setup i) (up : v.status ≢ Down) (is_point : IsPointOf setup i p) (by_setup : SuitsSetup setup i v) (by_point : SuitsPoint i v p) (next : next_point setup i v.up p o ≡ Some q) where
  next_is_point : IsPointOf setup i q
  next_is_point = point_follows setup i v.up p o q node by_setup.up is_point next

  next_up : (next_vector i p o v).status ≢ Down
  next_up d = grind (arith, up, d)

  next_falls : IsFallingBelow i (next_vector i p o v).up
  next_falls = grind (arith, by_setup.up, is_point, with_node-falling)

  next_by_setup : SuitsSetup setup i (next_vector i p o v)
  next_by_setup = record { up = next_falls; task = λ t e. grind (arith, by_setup.task, e); coordinator = λ k e. grind (arith, by_setup.coordinator, e, node) }

  next_by_point : o ≢ Outcome.Planned → SuitsPoint i (next_vector i p o v) q
  next_by_point ne = grind (arith, by_point, next, ne)

-- a procedure's node after any outcome but a plan
pub proceed_fits : (setup : Setup) (i : ℕ) (m : NodeState) (o : Outcome) (q : Point) → NodeInvariant setup i m → m.vector.status ≢ Down → o ≢ Outcome.Planned → next_point setup i m.vector.up m.point o ≡ Some q → NodeInvariant setup i (record { vector = next_vector i m.point o m.vector; point = q; pending = None })
proceed_fits setup i m o q fits up ne next =
    let node = node_of_fits setup i m fits up in
    record {
      a_node = inr node;
      down_idle = λ d. absurd (next_up setup i m.vector m.point o q node up fits.is_point fits.by_setup fits.by_point next d);
      down_free = λ d. refl;
      is_point = next_is_point setup i m.vector m.point o q node up fits.is_point fits.by_setup fits.by_point next;
      by_setup = next_by_setup setup i m.vector m.point o q node up fits.is_point fits.by_setup fits.by_point next;
      by_point = next_by_point setup i m.vector m.point o q node up fits.is_point fits.by_setup fits.by_point next ne;
      by_call = tt;
    }

pub proceeds_fits : (setup : Setup) (w : World) (i : ℕ) (o : Outcome) (w' : World) → WorldInvariant setup w → IsUp w i → o ≢ Outcome.Planned → Proceeds setup w i o w' → WorldInvariant setup w'
proceeds_fits setup w i o w' all up ne (q, next, becomes) =
    rw becomes (written_fits setup w i _ all (node_of_up setup w i all up) (proceed_fits setup i (node_state w i) o q (all.fits i) up ne next))

-- a point that isn't nowhere is some point
pub has_point : (q : Option Point) → (q ≡ None → ⊥) → (p : Point) × (q ≡ Some p)
has_point None h = absurd (h refl)
has_point (Some p) h = (p, refl)

-- a planning node is up
pub planning_up : (setup : Setup) (i : ℕ) (m : NodeState) → NodeInvariant setup i m → m.point ≡ Planning → m.vector.status ≢ Down
planning_up setup i m fits planning d = grind (arith, planning, fits.down_idle d)

pub plan_fits : (setup : Setup) (i : ℕ) (m : NodeState) (table : List ℕ) → NodeInvariant setup i m → m.point ≡ Planning → length table ≡ setup.partitions → NodeInvariant setup i (record { vector = record m.vector { task = Some table }; point = Readying m.vector.up; pending = None })
plan_fits setup i m table fits planning size = record {
  a_node = fits.a_node;
  down_idle = λ d. absurd (planning_up setup i m fits planning d);
  down_free = λ d. refl;
  is_point = fits.by_setup.up;
  by_setup = record { up = fits.by_setup.up; task = λ t e. grind (arith, e, size); coordinator = fits.by_setup.coordinator };
  by_point = suits (rw planning at fits.by_point);
  by_call = tt;
}
  where
    suits : SuitsPoint i m.vector Planning → SuitsPoint i (record m.vector { task = Some table }) (Readying m.vector.up)
    suits s = (s.0, s.1, grind arith)
