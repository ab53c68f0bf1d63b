-- What each point of a procedure offers.
use Rattle.std.specs.Prelude.{◌≢◌, ℕ, zero, suc, ◌+◌, ◌<◌, ◌≤◌, [], ◌∷◌, Option, Some, None, nat_le, if◌then◌else◌}
use Rattle.bully_base.specs.NodeSet.{IsFallingBelow}
use Rattle.bully_base.specs.Setup.{Setup, IsNode}
use Rattle.bully_calls.specs.declared.call.CallKind.{CallKind}
use Rattle.bully_calls.specs.declared.call.CallKind.TheVariants.{AreYouUp, AreYouNormal, Halt, NewCoordinator, Ready}
use Rattle.bully_steps.specs.declared.point.Point.{Point}
use Rattle.bully_steps.specs.declared.point.Point.TheVariants.{Idle, Asking, Halting, Announcing, Planning, Readying}
use Rattle.bully_steps.specs.declared.point.Point.TheVariants.{Checking, Inquiring}
use Rattle.bully_steps.specs.declared.point.Want.{Want}
use Rattle.bully_steps.specs.declared.point.Want.TheVariants.{Nothing, Start, Move, Plan}

abbrev pub start : ℕ → CallKind → Want
start k kind = Start (record { callee = k; kind = kind })

-- at Inquiring the call goes to the coordinator
abbrev pub inquiry : Option ℕ → Want
inquiry None = Nothing
inquiry (Some k) = start k AreYouUp

-- what the point of a node with this coordinator offers
abbrev pub offered : Setup → Option ℕ → Point → Want
offered setup coordinator Idle = Nothing
offered setup coordinator (Asking k) = if nat_le k setup.nodes then start k AreYouUp else Move
offered setup coordinator (Halting zero) = Move
offered setup coordinator (Halting (suc k)) = start (suc k) Halt
offered setup coordinator (Announcing []) = Move
offered setup coordinator (Announcing (k ∷ rest)) = start k NewCoordinator
offered setup coordinator Planning = Plan
offered setup coordinator (Readying []) = Move
offered setup coordinator (Readying (k ∷ rest)) = start k Ready
offered setup coordinator (Checking k) = start k AreYouNormal
offered setup coordinator Inquiring = inquiry coordinator

-- the point is one that a procedure of node i may stand at
abbrev pub IsPointOf : Setup → ℕ → Point → Type 0
IsPointOf setup i Idle = Unit {0}
IsPointOf setup i (Asking k) = (i < k) × (k ≤ setup.nodes + 1)
IsPointOf setup i (Halting k) = k < i
IsPointOf setup i (Announcing rest) = IsFallingBelow i rest
IsPointOf setup i Planning = Unit {0}
IsPointOf setup i (Readying rest) = IsFallingBelow i rest
IsPointOf setup i (Checking k) = IsNode setup k × (k ≢ i)
IsPointOf setup i Inquiring = Unit {0}
