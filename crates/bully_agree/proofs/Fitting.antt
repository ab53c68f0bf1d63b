-- What the invariant reads of a world, and that it is sound of each node that fits.
use Rattle.std.proofs.Common.{◌≡◌, ◌≢◌, ℕ, ◌+◌, Bool, false, List, Option, Some, None, arith, ap, ◌⊎◌, inl, inr, ◌&&◌, not, if◌then◌else◌}
use Rattle.bully_base.specs.Setup.{Setup, IsNode}
use Rattle.bully_calls.specs.declared.call.CallKind.{CallKind}
use Rattle.bully_calls.specs.declared.call.CallKind.TheVariants.{NewCoordinator, Ready}
use Rattle.bully_calls.specs.declared.call.Phase.{Phase}
use Rattle.bully_calls.specs.Pending.{Pending, is_sent, is_failed}
use Rattle.bully_handlers.specs.Vector.{Vector}
use Rattle.bully_steps.specs.declared.point.Point.{Point}
use Rattle.bully_steps.specs.declared.point.Point.TheVariants.{Idle, Asking, Halting, Announcing, Planning, Readying, Checking, Inquiring}
use Rattle.bully_world.proofs.NodeInvariantLemmas.{node_state_here, node_state_other}
use Rattle.bully_world.specs.NodeInvariant.{NodeInvariant, WorldInvariant}
use Rattle.bully_world.specs.World.{NodeState, World, node_state, vector, point, pending, with_node_state}
use Rattle.bully_agree.proofs.NodeSummary.{Activity, Rests, Halts, Calls, Hands, NodeSummary, LocalInvariant, AllLocal, Turns}

-- there is a live call that failed
abbrev pub has_failed : Option Pending → Bool
has_failed None = false
has_failed (Some c) = c.is_live && is_failed c.phase

-- there is a live call that ran or failed
abbrev pub is_over : Option Pending → Bool
is_over None = false
is_over (Some c) = c.is_live && not (is_sent c.phase)

-- a node at this point has asked past each higher node below this number, in a group of n
abbrev pub asked_front : ℕ → Point → Option Pending → ℕ
asked_front n Idle c = 0
asked_front n (Asking k) c = if has_failed c then k + 1 else k
asked_front n (Halting k) c = n + 1
asked_front n (Announcing rest) c = n + 1
asked_front n Planning c = n + 1
asked_front n (Readying rest) c = n + 1
asked_front n (Checking k) c = 0
asked_front n Inquiring c = 0

-- node i at this point has passed each lower node from this number on
abbrev pub passed_front : ℕ → Point → Option Pending → ℕ
passed_front i Idle c = i
passed_front i (Asking k) c = i
passed_front i (Halting k) c = if is_over c then k else k + 1
passed_front i (Announcing rest) c = 0
passed_front i Planning c = 0
passed_front i (Readying rest) c = 0
passed_front i (Checking k) c = i
passed_front i Inquiring c = i

abbrev pub activity_of : Point → Activity
activity_of Idle = Rests
activity_of (Asking k) = Rests
activity_of (Halting k) = Halts
activity_of (Announcing rest) = Calls
activity_of Planning = Calls
activity_of (Readying rest) = Hands
activity_of (Checking k) = Rests
activity_of Inquiring = Rests

-- a NewCoordinator is sent to this node
abbrev pub announces_by : CallKind → Phase → ℕ → Option ℕ
announces_by NewCoordinator Phase.Sent k = Some k
announces_by _ _ k = None

-- a Ready is sent to this node
abbrev pub readies_by : CallKind → Phase → ℕ → Option ℕ
readies_by Ready Phase.Sent k = Some k
readies_by _ _ k = None

abbrev pub announces_of : Option Pending → Option ℕ
announces_of None = None
announces_of (Some c) = announces_by c.call.kind c.phase c.call.callee

abbrev pub readies_of : Option Pending → Option ℕ
readies_of None = None
readies_of (Some c) = readies_by c.call.kind c.phase c.call.callee

-- with this table
abbrev pub carries_of : Option Pending → Option (List ℕ)
carries_of None = None
carries_of (Some c) = c.table

-- the summary of node i of n, with this vector, point and call
abbrev pub summary : ℕ → ℕ → Vector → Point → Option Pending → NodeSummary
summary n i v p c =
    record {
      asked = asked_front n p c;
      passed = passed_front i p c;
      activity = activity_of p;
      status = v.status;
      coordinator = v.coordinator;
      halter = v.halter;
      task = v.task;
      announces = announces_of c;
      readies = readies_of c;
      carries = carries_of c;
    }

abbrev pub summary_of : Setup → World → ℕ → NodeSummary
summary_of setup w i = summary setup.nodes i (vector w i) (point w i) (pending w i)

-- the only place that reads the shape of a node whole
pub local : (setup : Setup) (i : ℕ) (v : Vector) (p : Point) (c : Option Pending) → NodeInvariant setup i (record { vector = v; point = p; pending = c })
    → LocalInvariant setup.nodes i (summary setup.nodes i v p c)
local setup i v p c fits = record {
  down_passed_none = λ d. grind (arith, fits.down_idle d);
  passed_then_asked = λ l. grind (arith, fits.by_point);
  a_node = fits.a_node;
  halts_itself = λ h. grind (arith, fits.by_point);
  leads_status = λ h. grind (arith, fits.by_point);
  leads_itself = λ h. grind (arith, fits.by_point);
  leads_passed = λ h. grind (arith, fits.by_point);
  leads_asked = λ h. grind (arith, fits.by_point);
  hands_task = λ h. grind (arith, fits.by_point);
  announces_alone = λ k a. grind arith;
  announces_when = λ k a. grind (arith, fits.by_call);
  readies_when = λ k a. grind (arith, fits.by_call);
  readies_table = λ k a. grind (arith, fits.by_call);
}

pub all_local : (setup : Setup) (w : World) → WorldInvariant setup w → AllLocal setup.nodes (summary_of setup w)
all_local setup w all i = local setup i (vector w i) (point w i) (pending w i) (all.fits i)

-- node i's summary, where this is its state
abbrev pub summary_at : Setup → ℕ → NodeState → NodeSummary
summary_at setup i m = summary setup.nodes i m.vector m.point m.pending

-- w' is w with this state of node i
pub turns : (setup : Setup) (w w' : World) (i : ℕ) (m : NodeState) → node_state w' i ≡ m → ((j : ℕ) → j ≢ i → node_state w' j ≡ node_state w j)
    → Turns (summary_of setup w) (summary_of setup w') i (summary_at setup i m)
turns setup w w' i m here others = record { same = λ j. by_case j (grind arith) }
  where
    by_case : (j : ℕ) → (j ≡ i) ⊎ (j ≢ i) → ((j ≡ i) × (summary_of setup w' j ≡ summary_at setup i m)) ⊎ ((j ≢ i) × (summary_of setup w' j ≡ summary_of setup w j))
    by_case j (inl e) = inl (e, rw e (ap (summary_at setup i) here))
    by_case j (inr d) = inr (d, ap (summary_at setup j) (others j d))

pub written : (setup : Setup) (w : World) (i : ℕ) (m : NodeState) → WorldInvariant setup w → IsNode setup i
    → Turns (summary_of setup w) (summary_of setup (with_node_state w i m)) i (summary_at setup i m)
written setup w i m all node = turns setup w (with_node_state w i m) i m (node_state_here setup w i m all node) (λ j d. node_state_other w i j m d)
