-- Where each outcome leads from each point, and where a procedure starts.
use Rattle.std.specs.Prelude.{ℕ, zero, suc, ◌+◌, ◌-◌, List, [], ◌∷◌, Option, Some, None, ◌&&◌, ◌==◌, nat_lt, nat_le}
use Rattle.std.specs.Prelude.{if◌then◌else◌}
use Rattle.bully_base.specs.declared.node.Status.{Status}
use Rattle.bully_base.specs.declared.node.Status.TheVariants.{Down, Election, Reorganization, Normal}
use Rattle.bully_base.specs.NodeSet.{with_node}
use Rattle.bully_base.specs.Setup.{Setup}
use Rattle.bully_calls.specs.declared.call.Outcome.{Outcome}
use Rattle.bully_calls.specs.declared.call.Outcome.TheVariants.{Started, Moved, Planned, Yes, No, Failed}
use Rattle.bully_handlers.specs.Vector.{Vector, names, is_normal}
use Rattle.bully_steps.specs.declared.point.Point.{Point}
use Rattle.bully_steps.specs.declared.point.Point.TheVariants.{Idle, Asking, Halting, Announcing, Planning, Readying}
use Rattle.bully_steps.specs.declared.point.Point.TheVariants.{Checking, Inquiring}

-- an election of node i starts here
abbrev pub election : ℕ → Point
election i = Asking (i + 1)

-- the check of node i goes on at node k, or after it where k is i itself
abbrev pub checking_from : Setup → ℕ → ℕ → Point
checking_from setup i k =
    let other = if k == i then k + 1 else k in
    if nat_le other setup.nodes then Checking other else Idle

-- the point that follows at node i, where `up` is its set of lower nodes that are up
abbrev pub next_point : Setup → ℕ → List ℕ → Point → Outcome → Option Point
next_point setup i up (Asking k) Started = if nat_le k setup.nodes then Some (Asking k) else None
next_point setup i up (Asking k) Moved = if nat_le k setup.nodes then None else Some (Halting (i - 1))
next_point setup i up (Asking k) Yes = if nat_le k setup.nodes then Some Idle else None
next_point setup i up (Asking k) Failed = if nat_le k setup.nodes then Some (Asking (k + 1)) else None
next_point setup i up (Halting zero) Moved = Some (Announcing up)
next_point setup i up (Halting (suc k)) Started = Some (Halting (suc k))
next_point setup i up (Halting (suc k)) Yes = Some (Halting k)
next_point setup i up (Halting (suc k)) Failed = Some (Halting k)
next_point setup i up (Announcing []) Moved = Some Planning
next_point setup i up (Announcing (k ∷ rest)) Started = Some (Announcing (k ∷ rest))
next_point setup i up (Announcing (k ∷ rest)) Yes = Some (Announcing rest)
next_point setup i up (Announcing (k ∷ rest)) Failed = Some (election i)
next_point setup i up Planning Planned = Some (Readying up)
next_point setup i up (Readying []) Moved = Some Idle
next_point setup i up (Readying (k ∷ rest)) Started = Some (Readying (k ∷ rest))
next_point setup i up (Readying (k ∷ rest)) Yes = Some (Readying rest)
next_point setup i up (Readying (k ∷ rest)) Failed = Some (election i)
next_point setup i up (Checking k) Started = Some (Checking k)
next_point setup i up (Checking k) Yes = Some (checking_from setup i (k + 1))
next_point setup i up (Checking k) Failed = Some (checking_from setup i (k + 1))
next_point setup i up (Checking k) No = Some (election i)
next_point setup i up Inquiring Started = Some Inquiring
next_point setup i up Inquiring Yes = Some Idle
next_point setup i up Inquiring Failed = Some (election i)
next_point setup i up p o = None

-- the vector of node i that goes with it
abbrev pub next_vector : ℕ → Point → Outcome → Vector → Vector
next_vector i (Asking k) Moved v = record v { status = Election; halter = Some i; up = [] }
next_vector i (Halting (suc k)) Yes v = record v { up = with_node (suc k) v.up }
next_vector i (Halting zero) Moved v = record v { status = Reorganization; coordinator = Some i }
next_vector i (Readying []) Moved v = record v { status = Normal }
next_vector i p o v = v

-- where Check leads an idle node i
abbrev pub checked : Setup → ℕ → Status → Option ℕ → Point
checked setup i status coordinator =
    if is_normal status && names coordinator i && nat_lt 1 setup.nodes then checking_from setup i 1 else Idle

-- an idle node i asks for its coordinator, where that is another node
abbrev pub inquired : ℕ → Option ℕ → Point
inquired i None = Idle
inquired i (Some k) = if k == i then Idle else Inquiring

-- where Timeout leads an idle node i
abbrev pub timed_out : ℕ → Status → Option ℕ → Point
timed_out i Down coordinator = Idle
timed_out i Election coordinator = election i
timed_out i Reorganization coordinator = inquired i coordinator
timed_out i Normal coordinator = inquired i coordinator
