-- A claim that tells all of a node's vector.
use Rattle.std.specs.Prelude.{ℕ, List, Option}
use Rattle.bully_handlers.specs.Vector.{Vector}
use Rattle.bully_rows.specs.declared.trace.Claim.{Claim}

-- the claim, and what it tells beside status and coordinator; the set of nodes that are up stands in falling order
pub record Whole : Type 0 where
  pub claim : Claim
  pub halter : Option ℕ
  pub up : List ℕ
  pub task : Option (List ℕ)

-- all of this vector of node i
abbrev pub whole_of : ℕ → Vector → Whole
whole_of i v = record {
  claim = record { node = i; status = v.status; coordinator = v.coordinator };
  halter = v.halter;
  up = v.up;
  task = v.task;
}
