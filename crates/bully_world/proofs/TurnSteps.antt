-- What the turn rule offers, and what that needs.
use Rattle.std.proofs.Common.{◌≡◌, ◌≢◌, ℕ, zero, suc, true, false, List, [], ◌∷◌, Option, Some, None, arith, refl, IfSome, unwrap_or}
use Rattle.std.specs.Option.{option_map_or}
use Rattle.bully_base.specs.declared.node.Status.TheVariants.{Down}
use Rattle.bully_base.specs.Setup.{Setup}
use Rattle.bully_calls.specs.Pending.{Pending}
use Rattle.bully_steps.specs.declared.point.Point.{Point}
use Rattle.bully_steps.specs.declared.point.Point.TheVariants.{Idle, Asking, Halting, Announcing, Planning, Readying, Checking, Inquiring}
use Rattle.bully_steps.specs.declared.point.Want.{Want}
use Rattle.bully_steps.specs.ProcedureState.{ProcedureState, IsProcedureState, SuitsPlan, IsPlannedOver, procedure_state, coordinator_at, want_of}
use Rattle.bully_steps.specs.Point.{offered}
use Rattle.bully_world.specs.declared.turn.Next.{Next}
use Rattle.bully_world.specs.declared.turn.StepKind.{StepKind}
use Rattle.bully_world.specs.Cause.{is_live_in}
use Rattle.bully_world.specs.NodeInvariant.{NodeInvariant}
use Rattle.bully_world.specs.Turn.{turn_in_step, has_table, step_event}
use Rattle.bully_world.specs.World.{World, NodeState}
use Rattle.bully_world.proofs.AgreeLemmas.{Agrees}
use Rattle.bully_world.proofs.OwnEvents.{IsNodesOwn}

-- the procedure that the world shows of a node with this node state
abbrev pub shown : Setup → ℕ → ℕ → NodeState → ProcedureState
shown setup i g m = procedure_state setup i g m.point m.vector.up m.vector.coordinator (is_live_in m.pending)

-- What the turn rule offers.

pub same_kind : (k j : StepKind) → Next.Take k ≡ Next.Take j → k ≡ j
same_kind k j t = grind (arith, t)

-- a plan only at an empty slot, and with its table
pub plan_offered : (w : World) (q : Option Pending) (h : ProcedureState) → turn_in_step w q h ≡ Next.Take StepKind.Plan → has_table h ≡ true
plan_offered w None h t = grind (arith, t)
plan_offered w (Some c) h t = absurd (grind (arith, t))

-- What it needs.

offered_state : (setup : Setup) (p : Point) (k : Option ℕ) → offered setup (coordinator_at p k) p ≡ offered setup k p
offered_state setup Idle k = refl
offered_state setup (Asking j) k = refl
offered_state setup (Halting zero) k = refl
offered_state setup (Halting (suc j)) k = refl
offered_state setup (Announcing []) k = refl
offered_state setup (Announcing (j ∷ rest)) k = refl
offered_state setup Planning k = refl
offered_state setup (Readying []) k = refl
offered_state setup (Readying (j ∷ rest)) k = refl
offered_state setup (Checking j) k = refl
offered_state setup Inquiring k = refl

-- where no call is pending, a procedure that agrees with its node wants what the node's point offers
pub wants : (setup : Setup) (i g : ℕ) (m : NodeState) (h : ProcedureState) → h.setup ≡ setup → Agrees h (shown setup i g m) → m.pending ≡ None → want_of h ≡ offered setup m.vector.coordinator m.point
wants setup i g m h se a free = grind (arith, se, free, a.awaits, a.point, a.coordinator, offered_state setup m.point m.vector.coordinator)

-- a node that something is offered is up
pub up_if : (setup : Setup) (i : ℕ) (m : NodeState) → NodeInvariant setup i m → offered setup m.vector.coordinator m.point ≢ Want.Nothing → m.vector.status ≢ Down
up_if setup i m fits offers down = offers (grind (arith, fits.down_idle down))

-- the planned table is one that the node may take
pub planned_suits : (h : ProcedureState) → IsProcedureState h → has_table h ≡ true → (h.point ≡ Planning) × IfSome h.up (λ up. IsPlannedOver h.setup h.node up (unwrap_or h.table []))
planned_suits h is there = by_table h.table is.plan there
  where
    by_table : (t : Option (List ℕ)) → SuitsPlan h t → option_map_or (λ (table : List ℕ). true) t false ≡ true → (h.point ≡ Planning) × IfSome h.up (λ up. IsPlannedOver h.setup h.node up (unwrap_or t []))
    by_table None suits there = absurd (grind (arith, there))
    by_table (Some table) suits there = suits

-- a turn's event is its node's own
pub turn_own : (kind : StepKind) (h : ProcedureState) → IsNodesOwn h.node (step_event kind h)
turn_own StepKind.Start h = refl
turn_own kind h = refl
