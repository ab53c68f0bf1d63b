-- The table that a procedure is given where it is Planning.
use Rattle.std.specs.Prelude.{ℕ, List, [], Option, Some, None, unwrap_or}
use Rattle.bully_base.specs.NodeSet.{with_node}
use Rattle.bully_steps.specs.declared.point.Point.{Point}
use Rattle.bully_steps.specs.declared.point.Point.TheVariants.{Planning}
use Rattle.bully_steps.specs.ProcedureState.{ProcedureState}
use Rattle.bully_table.specs.Planning.{planned}

-- at Planning without a table one is planned from the old one, over the node and its up set
abbrev pub prepared_at : Point → Option (List ℕ) → Option (List ℕ) → ProcedureState → ProcedureState
prepared_at Planning None old h = record h { table = Some (planned h.setup old (with_node h.node (unwrap_or h.up []))) }
prepared_at _ _ old h = h

abbrev pub prepared_from : Option (List ℕ) → ProcedureState → ProcedureState
prepared_from old h = prepared_at h.point h.table old h
