-- A call that runs keeps what holds of its callee, and so of every node.
use Rattle.std.proofs.Common.{◌≡◌, ◌≢◌, ℕ, ◌<◌, Bool, true, false, List, Option, Some, None, arith, refl, sym, ap, ◌∙◌, inl, inr, ◌⊎◌, ◌&&◌, option_map, if◌then◌else◌}
use Rattle.bully_base.specs.declared.node.Status.TheVariants.{Down, Election, Reorganization, Normal}
use Rattle.bully_base.specs.Setup.{Setup, IsNode}
use Rattle.bully_calls.specs.declared.call.CallKind.{CallKind}
use Rattle.bully_calls.specs.declared.call.CallKind.TheVariants.{AreYouUp, AreYouNormal, Halt, NewCoordinator, Ready}
use Rattle.bully_calls.specs.declared.call.Phase.{Phase}
use Rattle.bully_calls.specs.Pending.{Pending, orphan_of}
use Rattle.bully_handlers.specs.Handler.{callee_after, reply}
use Rattle.bully_handlers.specs.Vector.{Vector, names, is_election, is_reorganization}
use Rattle.bully_steps.specs.declared.point.Point.{Point}
use Rattle.bully_steps.specs.declared.point.Point.TheVariants.{Idle, Inquiring}
use Rattle.bully_world.specs.NodeInvariant.{NodeInvariant, WorldInvariant, SuitsCall, SuitsPhase, SuitsTable, SuitsCallee, SuitsPending}
use Rattle.bully_world.specs.Step.{IsUp, stopped_by, called, with_phase, ran}
use Rattle.bully_world.specs.World.{World, NodeState, node_state, vector, point, pending, stopped}
use Rattle.bully_world.proofs.CallInvariant.{with_phase_fits}
use Rattle.bully_world.proofs.NodeStateLemmas.{node_of_fits, node_state_here, node_state_other, node_of_up, node_of_pending, call_of_pending, written_fits}

-- a reply suits its call
pub reply_suits : (kind : CallKind) (v : Vector) → SuitsPhase kind (Phase.Ran (reply kind v))
reply_suits kind v = grind arith

-- node d, halted by node i
pub halted_fits : (setup : Setup) (i d : ℕ) (m : NodeState) → NodeInvariant setup d m → m.vector.status ≢ Down → NodeInvariant setup d (stopped (record m { vector = record m.vector { status = Election; halter = Some i } }))
halted_fits setup i d m fits up = record {
  a_node = inr (node_of_fits setup d m fits up);
  down_idle = λ e. refl;
  down_free = λ e. absurd (grind arith);
  is_point = tt;
  by_setup = record { up = fits.by_setup.up; task = fits.by_setup.task; coordinator = fits.by_setup.coordinator };
  by_point = tt;
  by_call = suits m.pending fits.by_call;
}
  where
    suits : (c : Option Pending) → SuitsPending setup d m.vector m.point c → SuitsPending setup d (record m.vector { status = Election; halter = Some i }) Idle (option_map orphan_of c)
    suits None s = tt
    suits (Some c) s = record { live = λ e. absurd (grind arith); orphan = λ e. tt; to_node = s.to_node; callee = s.callee; table = s.table; phase = s.phase }

-- a call suits still where the coordinator is another, at a point other than Inquiring
suits_still : (setup : Setup) (d : ℕ) (v1 v2 : Vector) (p : Point) (c : Option Pending) → (v1.coordinator ≡ v2.coordinator) ⊎ (p ≢ Inquiring) → SuitsPending setup d v1 p c → SuitsPending setup d v2 p c
suits_still setup d v1 v2 p None x s = tt
suits_still setup d v1 v2 p (Some c) x s = record { live = λ l. grind (arith, s.live l, x); orphan = s.orphan; to_node = s.to_node; callee = s.callee; table = s.table; phase = s.phase }

-- node d joins node i that halted it
pub joined_fits : (setup : Setup) (i d : ℕ) (m : NodeState) → NodeInvariant setup d m → IsNode setup i → d < i → m.vector.status ≡ Election → m.vector.halter ≡ Some i → NodeInvariant setup d (record m { vector = record m.vector { status = Reorganization; coordinator = Some i } })
joined_fits setup i d m fits node below status halter = record {
  a_node = inr (node_of_fits setup d m fits (λ e. grind (arith, e, status)));
  down_idle = λ e. absurd (grind arith);
  down_free = λ e. absurd (grind arith);
  is_point = fits.is_point;
  by_setup = record { up = fits.by_setup.up; task = fits.by_setup.task; coordinator = λ k e. grind (arith, e, node) };
  by_point = grind (arith, fits.by_point, status, halter, below);
  by_call = suits_still setup d m.vector (record m.vector { status = Reorganization; coordinator = Some i }) m.point m.pending (inr (λ x. grind (arith, fits.by_point, status, x))) fits.by_call;
}

-- node d is normal under node i
pub readied_fits : (setup : Setup) (i d : ℕ) (m : NodeState) (table : Option (List ℕ)) → NodeInvariant setup d m → d < i → m.vector.status ≡ Reorganization → m.vector.coordinator ≡ Some i → SuitsTable setup Ready table → NodeInvariant setup d (record m { vector = record m.vector { status = Normal; task = table } })
readied_fits setup i d m table fits below status coordinator suits = record {
  a_node = inr (node_of_fits setup d m fits (λ e. grind (arith, e, status)));
  down_idle = λ e. absurd (grind arith);
  down_free = λ e. absurd (grind arith);
  is_point = fits.is_point;
  by_setup = record { up = fits.by_setup.up; task = λ t e. grind (arith, e, suits); coordinator = fits.by_setup.coordinator };
  by_point = grind (arith, fits.by_point, status, coordinator, below);
  by_call = suits_still setup d m.vector (record m.vector { status = Normal; task = table }) m.point m.pending (inl refl) fits.by_call;
}

joins : (setup : Setup) (i d : ℕ) (m : NodeState) (b : Bool) → names m.vector.halter i && is_election m.vector.status ≡ b → NodeInvariant setup d m → IsNode setup i → d < i → NodeInvariant setup d (record m { vector = if b then record m.vector { status = Reorganization; coordinator = Some i } else m.vector })
joins setup i d m true t fits node below = joined_fits setup i d m fits node below (grind (arith, t)) (grind (arith, t))
joins setup i d m false t fits node below = fits

follows : (setup : Setup) (i d : ℕ) (m : NodeState) (table : Option (List ℕ)) (b : Bool) → names m.vector.coordinator i && is_reorganization m.vector.status ≡ b → NodeInvariant setup d m → d < i → SuitsTable setup Ready table → NodeInvariant setup d (record m { vector = if b then record m.vector { status = Normal; task = table } else m.vector })
follows setup i d m table true t fits below suits = readied_fits setup i d m table fits below (grind (arith, t)) (grind (arith, t)) suits
follows setup i d m table false t fits below suits = fits

-- node d after it heard a call from node i
pub callee_fits_after : (setup : Setup) (i d : ℕ) (kind : CallKind) (table : Option (List ℕ)) (m : NodeState) → NodeInvariant setup d m → m.vector.status ≢ Down → IsNode setup i → SuitsCallee i kind d → SuitsTable setup kind table → NodeInvariant setup d (stopped_by kind (record m { vector = callee_after i kind table m.vector }))
callee_fits_after setup i d AreYouUp table m fits up node callee suits = fits
callee_fits_after setup i d AreYouNormal table m fits up node callee suits = fits
callee_fits_after setup i d Halt table m fits up node callee suits = halted_fits setup i d m fits up
callee_fits_after setup i d NewCoordinator table m fits up node callee suits = joins setup i d m _ refl fits node callee
callee_fits_after setup i d Ready table m fits up node callee suits = follows setup i d m table _ refl fits callee suits

-- a call goes to another node than its caller
pub callee_other : (setup : Setup) (w : World) (i : ℕ) (c : Pending) → WorldInvariant setup w → pending w i ≡ Some c → c.call.callee ≢ i
callee_other setup w i c all is e = grind (arith, e, (call_of_pending setup w i c all is).callee)

-- a call that runs
module _ (setup : Setup) (w : World) (i : ℕ) (c : Pending) (all : WorldInvariant setup w) (is : pending w i ≡ Some c) (up : IsUp w c.call.callee) where
  abbrev answered : World
  answered = with_phase w i c (Phase.Ran (reply c.call.kind (vector w c.call.callee)))

  node : IsNode setup i
  node = (node_of_pending setup w i c all is).0

  there : IsNode setup c.call.callee
  there = node_of_up setup w c.call.callee all up

  suits : SuitsCall setup i (vector w i) (point w i) c
  suits = call_of_pending setup w i c all is

  other : c.call.callee ≢ i
  other = callee_other setup w i c all is

  answered_fits : WorldInvariant setup answered
  answered_fits = with_phase_fits setup w i c (Phase.Ran (reply c.call.kind (vector w c.call.callee))) all is (reply_suits c.call.kind (vector w c.call.callee))

  answered_there : node_state answered c.call.callee ≡ node_state w c.call.callee
  answered_there = node_state_other w i c.call.callee _ other

  callee_fits : NodeInvariant setup c.call.callee (called i c (node_state w c.call.callee))
  callee_fits = callee_fits_after setup i c.call.callee c.call.kind c.table (node_state w c.call.callee) (all.fits c.call.callee) up node suits.callee suits.table

  pub run_fits : WorldInvariant setup (ran w i c)
  run_fits = written_fits setup answered c.call.callee (called i c (node_state answered c.call.callee)) answered_fits there (rw answered_there callee_fits)

  -- what the nodes are after the call ran
  pub ran_here : node_state (ran w i c) i ≡ record (node_state w i) { pending = Some (record c { phase = Phase.Ran (reply c.call.kind (vector w c.call.callee)) }) }
  ran_here = node_state_other answered c.call.callee i _ (λ e. other (sym e)) ∙ node_state_here setup w i _ all node

  pub ran_there : node_state (ran w i c) c.call.callee ≡ called i c (node_state w c.call.callee)
  ran_there = node_state_here setup answered c.call.callee _ answered_fits there ∙ ap (called i c) answered_there

  pub ran_other : (j : ℕ) → j ≢ i → j ≢ c.call.callee → node_state (ran w i c) j ≡ node_state w j
  ran_other j d e = node_state_other answered c.call.callee j _ e ∙ node_state_other w i j _ d
