-- What a member appends.
use Rattle.std.specs.Prelude.{ℕ, List, [], not, if◌then◌else◌}
use Rattle.bully_calls.specs.declared.event.Event.{Event}
use Rattle.bully_member.specs.Due.{is_none_of}
use Rattle.bully_member.specs.Member.{MemberState, live_of, replica_of}
use Rattle.bully_rebalance.specs.Rebalancing.{rebalancing_of}

-- among which nodes it rebalances the group: in an eager group all live ones, in a cooperative one those that were
-- admitted; or none if it ends
abbrev pub rebalanced_nodes : MemberState → List ℕ
rebalanced_nodes m =
    if not (is_none_of m.ending) then [] else
    if m.terms.is_cooperative then m.group else
    live_of m.leases

-- the events that do so
abbrev pub rebalance : MemberState → List Event
rebalance m = rebalancing_of (replica_of m) m.terms.old (rebalanced_nodes m)
