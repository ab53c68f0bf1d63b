-- Whom members admit while a change is under way.
use Rattle.std.specs.Prelude.{if◌then◌else◌, ℕ, List, [], fold}
use Rattle.bully_base.specs.NodeSet.{with_node}
use Rattle.bully_member.specs.declared.values.Lease.{Lease}

-- the nodes of those of these leases whose holders don't leave, in falling order
abbrev pub with_staying : List ℕ → Lease → List ℕ
with_staying nodes p = if p.is_leaving then nodes else with_node p.node nodes

abbrev pub staying_among : List Lease → List ℕ
staying_among leases = fold with_staying [] leases
