-- What a snapshot need not show to a member that isn't about to change the log.
use Rattle.std.specs.Prelude.{◌==◌, ◌&&◌, ◌||◌, not, ℕ, Bool, [], map, if◌then◌else◌}
use Rattle.std.specs.List.{list_any}
use Rattle.bully_member.specs.Member.{MemberState, above, heeds_promises, is_held_off}
use Rattle.bully_member.specs.Times.{turn_left}
use Rattle.bully_member.specs.declared.values.Lease.{Lease}
use Rattle.bully_member.specs.declared.values.Promise.{Promise}

-- the promise of a session that has promised nothing, as far as is known
abbrev pub no_promise : Promise
no_promise = record { epoch = 0; offset = 0 }

-- a lease without its promise, unless it is that of this node
abbrev pub unpromised : (own : ℕ) → Lease → Lease
unpromised own p = record p {
  promise = if p.node == own then p.promise else no_promise;
  kept = if p.node == own then p.kept else [];
}

-- the member after a snapshot that showed it no promise of others
abbrev pub without_promises : MemberState → MemberState
without_promises m = record m { leases = map (unpromised m.terms.node) m.leases }

-- whether a snapshot must show it what others have promised, if the group is stable for it or not: the group is eager, or
-- no higher node is live; or the group isn't stable for it, and its turn to change the log has come; or somebody came
-- again whom it admits only while a change is under way
abbrev pub needs_promises : MemberState → (now : ℕ) → (is_stable : Bool) → Bool
needs_promises m now is_stable =
    heeds_promises m || (not is_stable && (turn_left (above m) m.ttl now m.last_change.at == 0))
    || list_any (is_held_off m now) m.leases
