-- A point in two parts: its kind, and the nodes that it has left.
use Rattle.std.specs.Prelude.{ℕ, List, [], ◌∷◌, Option, Some, None, unwrap_or}
use Rattle.bully_calls.specs.declared.call.Outcome.{Outcome}
use Rattle.bully_calls.specs.declared.call.Outcome.TheVariants.{Moved, Yes}
use Rattle.bully_steps.specs.declared.point.Point.{Point}
use Rattle.bully_steps.specs.declared.point_kind.PointKind.{PointKind}
use Rattle.bully_steps.specs.declared.point_kind.PointKind.TheVariants.{Idle, Asking, Halting, Announcing, Planning}
use Rattle.bully_steps.specs.declared.point_kind.PointKind.TheVariants.{Readying, Checking, Inquiring}

abbrev pub kind_of : Point → PointKind
kind_of Point.Idle = Idle
kind_of (Point.Asking k) = Asking k
kind_of (Point.Halting k) = Halting k
kind_of (Point.Announcing left) = Announcing
kind_of Point.Planning = Planning
kind_of (Point.Readying left) = Readying
kind_of (Point.Checking k) = Checking k
kind_of Point.Inquiring = Inquiring

-- the point of this kind with these nodes left
abbrev pub point_at : PointKind → List ℕ → Point
point_at Idle left = Point.Idle
point_at (Asking k) left = Point.Asking k
point_at (Halting k) left = Point.Halting k
point_at Announcing left = Point.Announcing left
point_at Planning left = Point.Planning
point_at Readying left = Point.Readying left
point_at (Checking k) left = Point.Checking k
point_at Inquiring left = Point.Inquiring

-- the nodes that a point has left, where it keeps them
abbrev pub left_at : Point → Option (List ℕ)
left_at (Point.Announcing left) = Some left
left_at (Point.Readying left) = Some left
left_at point = None

-- nobody, where no set is held
abbrev pub nodes_in : Option (List ℕ) → List ℕ
nodes_in nodes = unwrap_or nodes []

abbrev pub without_first : List ℕ → List ℕ
without_first [] = []
without_first (k ∷ left) = left

-- a node that answered Yes leaves
abbrev pub left_behind : Outcome → List ℕ → List ℕ
left_behind Yes left = without_first left
left_behind outcome left = left

-- the nodes that are left after a point of this kind, where an outcome leads on from it; `up` is the up set
abbrev pub left_after : PointKind → Outcome → List ℕ → List ℕ → List ℕ
left_after Announcing outcome up left = left_behind outcome left
left_after Readying outcome up left = left_behind outcome left
left_after (Halting k) Moved up left = up
left_after Planning outcome up left = up
left_after kind outcome up left = left
