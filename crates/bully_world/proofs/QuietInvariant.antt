-- Recovery, crash, and the events by which an idle node begins a procedure keep what holds of a node.
use Rattle.std.proofs.Common.{◌≡◌, ◌≢◌, ℕ, Bool, true, false, List, length, Option, Some, None, arith, refl, inl, inr, if◌then◌else◌}
use Rattle.bully_base.specs.declared.node.Status.TheVariants.{Down}
use Rattle.bully_base.specs.Setup.{Setup, IsNode}
use Rattle.bully_calls.specs.Pending.{Pending}
use Rattle.bully_handlers.specs.Vector.{crashed, recovered}
use Rattle.bully_steps.specs.declared.point.Point.{Point}
use Rattle.bully_steps.specs.declared.point.Point.TheVariants.{Idle}
use Rattle.bully_steps.specs.NextPoint.{election, checked, timed_out}
use Rattle.bully_steps.specs.Point.{IsPointOf}
use Rattle.bully_world.specs.NodeInvariant.{NodeInvariant, SuitsPoint, SuitsPending, IsBeginning}
use Rattle.bully_world.specs.World.{NodeState, empty_node_state}

pub empty_fits : (setup : Setup) (i : ℕ) → NodeInvariant setup i empty_node_state
empty_fits setup i = record {
  a_node = inl refl;
  down_idle = λ d. refl;
  down_free = λ d. refl;
  is_point = tt;
  by_setup = record { up = tt; task = λ t e. absurd (grind arith); coordinator = λ k e. absurd (grind arith) };
  by_point = tt;
  by_call = tt;
}

-- a task that is kept has the setup's partitions still
kept_sized : (keeps : Bool) (task : Option (List ℕ)) (n : ℕ) → ((table : List ℕ) → task ≡ Some table → length table ≡ n) → (table : List ℕ) → (if keeps then task else None) ≡ Some table → length table ≡ n
kept_sized true task n sized table e = sized table e
kept_sized false task n sized table e = absurd (grind (arith, e))

pub crash_fits : (setup : Setup) (i : ℕ) (m : NodeState) → NodeInvariant setup i m → NodeInvariant setup i (record { vector = crashed setup m.vector; point = Idle; pending = None })
crash_fits setup i m fits = record {
  a_node = inl refl;
  down_idle = λ d. refl;
  down_free = λ d. refl;
  is_point = tt;
  by_setup = record { up = tt; task = kept_sized setup.keeps m.vector.task setup.partitions fits.by_setup.task; coordinator = λ k e. absurd (grind (arith, e)) };
  by_point = tt;
  by_call = tt;
}

pub recover_fits : (setup : Setup) (i : ℕ) (m : NodeState) → NodeInvariant setup i m → IsNode setup i → m.vector.status ≡ Down → NodeInvariant setup i (record m { vector = recovered setup m.vector; point = election i })
recover_fits setup i m fits node down = record {
  a_node = inr node;
  down_idle = λ d. absurd (grind arith);
  down_free = λ d. fits.down_free down;
  is_point = (omega arith, omega (arith, node.1));
  by_setup = record { up = tt; task = kept_sized setup.keeps m.vector.task setup.partitions fits.by_setup.task; coordinator = λ k e. absurd (grind (arith, e)) };
  by_point = tt;
  by_call = rw (fits.down_free down) tt;
}

-- an idle node goes to a point where it has asked past nobody and passed nobody
pub begin_fits : (setup : Setup) (i : ℕ) (m : NodeState) (p : Point) → NodeInvariant setup i m → m.vector.status ≢ Down → m.point ≡ Idle → IsBeginning i p → IsPointOf setup i p → SuitsPoint i m.vector p → NodeInvariant setup i (record m { point = p })
begin_fits setup i m p fits up idle begins is_point suits_point = record {
  a_node = fits.a_node;
  down_idle = λ d. absurd (up d);
  down_free = λ d. absurd (up d);
  is_point = is_point;
  by_setup = fits.by_setup;
  by_point = suits_point;
  by_call = suits m.pending fits.by_call;
}
  where
    suits : (c : Option Pending) → SuitsPending setup i m.vector m.point c → SuitsPending setup i m.vector p c
    suits None s = tt
    suits (Some c) s = record { live = λ e. absurd (grind (arith, idle, s.live e)); orphan = λ e. begins; to_node = s.to_node; callee = s.callee; table = s.table; phase = s.phase }

pub check_fits : (setup : Setup) (i : ℕ) (m : NodeState) → NodeInvariant setup i m → m.vector.status ≢ Down → m.point ≡ Idle → NodeInvariant setup i (record m { point = checked setup i m.vector.status m.vector.coordinator })
check_fits setup i m fits up idle = begin_fits setup i m _ fits up idle (grind arith) (grind arith) (grind arith)

pub timeout_fits : (setup : Setup) (i : ℕ) (m : NodeState) → NodeInvariant setup i m → m.vector.status ≢ Down → m.point ≡ Idle → NodeInvariant setup i (record m { point = timed_out i m.vector.status m.vector.coordinator })
timeout_fits setup i m fits up idle = begin_fits setup i m _ fits up idle (grind arith) (grind (arith, fits.a_node, up)) (grind (arith, up))
