-- What holds of each node by itself in every world that a lawful list leads to.
use Rattle.std.specs.Prelude.{◌≡◌, ◌≢◌, ◌<◌, ◌≤◌, ◌+◌, ◌⊎◌, ℕ, true, false, List, Option, Some, None, IsSome, length}
use Rattle.bully_base.specs.declared.node.Status.TheVariants.{Down, Election, Reorganization, Normal}
use Rattle.bully_base.specs.NodeSet.{IsFallingBelow}
use Rattle.bully_base.specs.Setup.{Setup, IsNode}
use Rattle.bully_calls.specs.declared.call.Answer.{Answer}
use Rattle.bully_calls.specs.declared.call.CallKind.{CallKind}
use Rattle.bully_calls.specs.declared.call.CallKind.TheVariants.{AreYouUp, AreYouNormal, Halt, NewCoordinator, Ready}
use Rattle.bully_calls.specs.declared.call.Phase.{Phase}
use Rattle.bully_calls.specs.Pending.{Pending}
use Rattle.bully_handlers.specs.Vector.{Vector}
use Rattle.bully_steps.specs.declared.point.Point.{Point}
use Rattle.bully_steps.specs.declared.point.Point.TheVariants.{Idle, Asking, Halting, Announcing, Planning, Readying}
use Rattle.bully_steps.specs.declared.point.Point.TheVariants.{Checking, Inquiring}
use Rattle.bully_steps.specs.declared.point.Want.{Want}
use Rattle.bully_steps.specs.Point.{offered, IsPointOf}
use Rattle.bully_world.specs.World.{World, NodeState, node_state}

-- the node is in Reorganization or Normal
abbrev pub TakesPart : Vector → Type 0
TakesPart v = (v.status ≡ Reorganization) ⊎ (v.status ≡ Normal)

-- node i's vector goes with its point
abbrev pub SuitsPoint : ℕ → Vector → Point → Type 0
SuitsPoint i v Idle = Unit {0}
SuitsPoint i v (Asking k) = Unit {0}
SuitsPoint i v (Halting k) = (v.status ≡ Election) × (v.halter ≡ Some i)
SuitsPoint i v (Announcing rest) = (v.status ≡ Reorganization) × (v.coordinator ≡ Some i)
SuitsPoint i v Planning = (v.status ≡ Reorganization) × (v.coordinator ≡ Some i)
SuitsPoint i v (Readying rest) = (v.status ≡ Reorganization) × (v.coordinator ≡ Some i) × IsSome v.task
SuitsPoint i v (Checking k) = Unit {0}
SuitsPoint i v Inquiring = TakesPart v × IsSome v.coordinator × (v.coordinator ≢ Some i)

-- a node here has asked past nobody and passed nobody
abbrev pub IsBeginning : ℕ → Point → Type 0
IsBeginning i Idle = Unit {0}
IsBeginning i (Asking k) = k ≤ i + 1
IsBeginning i (Halting k) = ⊥
IsBeginning i (Announcing rest) = ⊥
IsBeginning i Planning = ⊥
IsBeginning i (Readying rest) = ⊥
IsBeginning i (Checking k) = Unit {0}
IsBeginning i Inquiring = Unit {0}

-- calls that change their callee go to a lower node, the others to another one
abbrev pub SuitsCallee : ℕ → CallKind → ℕ → Type 0
SuitsCallee i AreYouUp k = k ≢ i
SuitsCallee i AreYouNormal k = k ≢ i
SuitsCallee i Halt k = k < i
SuitsCallee i NewCoordinator k = k < i
SuitsCallee i Ready k = k < i

-- what a call of this kind is answered
abbrev pub SuitsPhase : CallKind → Phase → Type 0
SuitsPhase kind Phase.Sent = Unit {0}
SuitsPhase kind (Phase.Ran Answer.Yes) = Unit {0}
SuitsPhase kind (Phase.Ran Answer.No) = kind ≡ AreYouNormal
SuitsPhase kind (Phase.Ran _) = ⊥
SuitsPhase kind Phase.Failed = Unit {0}

-- a Ready carries a table of the setup's partitions, no other call carries one
abbrev pub SuitsTable : Setup → CallKind → Option (List ℕ) → Type 0
SuitsTable setup kind None = kind ≢ Ready
SuitsTable setup kind (Some table) = (kind ≡ Ready) × (length table ≡ setup.partitions)

-- node i's call goes with its point: a live one is what the point offers
pub record SuitsCall (setup : Setup) (i : ℕ) (v : Vector) (p : Point) (c : Pending) : Type 0 where
  pub live : c.is_live ≡ true → offered setup v.coordinator p ≡ Want.Start c.call
  pub orphan : c.is_live ≡ false → IsBeginning i p
  pub to_node : IsNode setup c.call.callee
  pub callee : SuitsCallee i c.call.kind c.call.callee
  pub table : SuitsTable setup c.call.kind c.table
  pub phase : SuitsPhase c.call.kind c.phase

abbrev pub SuitsPending : Setup → ℕ → Vector → Point → Option Pending → Type 0
SuitsPending setup i v p None = Unit {0}
SuitsPending setup i v p (Some c) = SuitsCall setup i v p c

-- the nodes that the vector names, and its task's size
pub record SuitsSetup (setup : Setup) (i : ℕ) (v : Vector) : Type 0 where
  pub up : IsFallingBelow i v.up
  pub task : (table : List ℕ) → v.task ≡ Some table → length table ≡ setup.partitions
  pub coordinator : (k : ℕ) → v.coordinator ≡ Some k → IsNode setup k

-- what holds of one node
pub record NodeInvariant (setup : Setup) (i : ℕ) (m : NodeState) : Type 0 where
  pub a_node : (m.vector.status ≡ Down) ⊎ IsNode setup i
  pub down_idle : m.vector.status ≡ Down → m.point ≡ Idle
  pub down_free : m.vector.status ≡ Down → m.pending ≡ None
  pub is_point : IsPointOf setup i m.point
  pub by_setup : SuitsSetup setup i m.vector
  pub by_point : SuitsPoint i m.vector m.point
  pub by_call : SuitsPending setup i m.vector m.point m.pending

-- what holds of every node
pub record WorldInvariant (setup : Setup) (w : World) : Type 0 where
  pub count : length w.states ≡ setup.nodes
  pub fits : (i : ℕ) → NodeInvariant setup i (node_state w i)
