-- What a member knows.
use Rattle.std.specs.Prelude.{All, ◌∷◌, find, length, ◌-◌, filter, slice_get, replicate, ◌≡◌, ◌<◌, ◌≤◌, ◌+◌, ◌*◌, ℕ}
use Rattle.std.specs.Prelude.{Bool, true, false, List, [], Option, None, nat_le, max, min, ◌==◌, ◌&&◌, ◌||◌, not}
use Rattle.std.specs.Prelude.{if◌then◌else◌, fold, count_by, nat_lt, Some, ◌↔◌, Contains}
use Rattle.std.specs.List.{list_all, list_any}
use Rattle.bully_agree.specs.Fencing.{Planned}
use Rattle.bully_base.specs.NodeSet.{IsFallingBelow, with_node}
use Rattle.bully_base.specs.Setup.{IsNode}
use Rattle.bully_base.specs.declared.TheConstants.{NODES_MAX, PARTITIONS_MAX}
use Rattle.bully_member.specs.Opening.{terms_fault}
use Rattle.bully_member.specs.declared.opening.Terms.{Terms}
use Rattle.bully_member.specs.declared.opening.TheConstants.{REBALANCE_MAX, TTL_MAX}
use Rattle.bully_member.specs.Times.{first_stay, left}
use Rattle.bully_member.specs.declared.values.Activity.{Activity}
use Rattle.bully_member.specs.declared.values.Arrival.{Arrival}
use Rattle.bully_member.specs.declared.values.Asked.{Asked}
use Rattle.bully_member.specs.declared.values.Ending.{Ending}
use Rattle.bully_member.specs.declared.values.SessionState.{SessionState}
use Rattle.bully_member.specs.declared.values.Lease.{Lease}
use Rattle.bully_member.specs.declared.values.Promise.{Promise}
use Rattle.bully_member.specs.declared.values.LastChange.{LastChange}
use Rattle.bully_replica.specs.RowReplica.{RowReplicaState}
use Rattle.bully_replica.specs.Replica.{ReplicaState, first_replica, token_of}
use Rattle.bully_rows.specs.declared.header.Header.{Header}
use Rattle.bully_rebalance.specs.Leaving.{Loses, is_left}
use Rattle.bully_rebalance.specs.Owning.{owned_by}
use Rattle.bully_rebalance.specs.Rebalancing.{is_member, table_before}
use Rattle.bully_rebalance.specs.Stable.{IsStable}
use Rattle.bully_rebalance.specs.declared.holding.Owned.{Owned}
use Rattle.bully_table.specs.Planning.{planned}
use Rattle.bully_world.specs.Cause.{is_down_at}
use Rattle.bully_world.specs.State.{world_of}
use Rattle.std.specs.Option.{option_map_or}

-- what it has learned, and what the epoch is for it; its process and ttl; its session, how many sessions it has asked
-- for, the last offset of this epoch that its session has ever promised, whether or not the store knows of that, and
-- its promise as the store is known to have it, and whether that keeps exactly what it works on; what the last snapshot
-- found, and whether another one is due; among whom the group is stable or to be rebalanced, which table is coming
-- then, and which nodes that affects; its work on each partition, by which token it last began, and whether that ended
-- by itself; why it ends, if it does; when a request last wasn't answered; its last request, and whether what that
-- promises to keep is still exactly what it works on
pub record MemberState : Type 0 where
  pub learned : RowReplicaState
  pub terms : Terms
  pub process : ℕ
  pub ttl : ℕ
  pub session : SessionState
  pub tries : ℕ
  pub promised : ℕ
  pub own : Promise
  pub is_exact : Bool
  pub leases : List Lease
  pub arrivals : List Arrival
  pub group : List ℕ
  pub coming : Option (List ℕ)
  pub affected : List ℕ
  pub has_unknown : Bool
  pub has_request : Bool
  pub needs_snapshot : Bool
  pub last_change : LastChange
  pub is_past : Bool
  pub has_closed : Bool
  pub works : List Activity
  pub token : ℕ
  pub is_lost : Bool
  pub ending : Option Ending
  pub paused : Option ℕ
  pub asked : Option Asked
  pub is_asked_exact : Bool

abbrev pub replica_of : MemberState → ReplicaState
replica_of m = m.learned.replica

-- the end of the log, as far as it was learned
abbrev pub offset_of : MemberState → ℕ
offset_of m = (replica_of m).world.events

abbrev pub here : MemberState → Promise
here m = record { epoch = m.terms.epoch; offset = offset_of m }

-- the live nodes, in falling order
abbrev pub live_of : List Lease → List ℕ
live_of leases = fold (λ nodes p. with_node p.node nodes) [] leases

abbrev pub same_promise : Promise → Promise → Bool
same_promise p q = (p.epoch == q.epoch) && (p.offset == q.offset)

-- the offset of a promise, if it is of this epoch
abbrev pub offset_in : ℕ → Promise → ℕ
offset_in epoch p = if p.epoch == epoch then p.offset else 0

-- how much longer the session that holds the lease of a node must stay until it is admitted
abbrev pub stay_left : List Arrival → (now node : ℕ) → ℕ
stay_left arrivals now node = option_map_or (λ (a : Arrival). left now a.stay a.at) (slice_get arrivals (node - 1)) 0

-- whether a node is Down in the log, or none of the group's
abbrev pub is_down : MemberState → ℕ → Bool
is_down m i = nat_lt (replica_of m).world.setup.nodes i || is_down_at (world_of (replica_of m).world) i

-- whether this is the lease of a node that is up in the log, whose session has promised the log's end
abbrev pub asks_for_change : MemberState → Lease → Bool
asks_for_change m p = not (is_down m p.node) && same_promise p.promise (here m)

-- whether a change is under way, as far as these leases show
abbrev pub is_under_way : MemberState → List Lease → Bool
is_under_way m leases = list_any (asks_for_change m) leases

-- whether a lease is admitted: its holder doesn't leave, and its node is up in the log, or its session has stayed long
-- enough, or a change is under way
abbrev pub is_admitted : MemberState → (now : ℕ) → (under_way : Bool) → Lease → Bool
is_admitted m now under_way p =
    not p.is_leaving && (not (is_down m p.node) || (stay_left m.arrivals now p.node == 0) || under_way)

-- with one more node, if its lease is admitted
abbrev pub with_admitted : MemberState → (now : ℕ) → (under_way : Bool) → List ℕ → Lease → List ℕ
with_admitted m now under_way nodes p = if is_admitted m now under_way p then with_node p.node nodes else nodes

-- the nodes of those of these leases that are admitted, in falling order
abbrev pub admitted_among : MemberState → (now : ℕ) → List Lease → List ℕ
admitted_among m now leases = fold (with_admitted m now (is_under_way m leases)) [] leases

-- whether a lease is admitted only while a change is under way
abbrev pub is_kept_out : MemberState → (now : ℕ) → Lease → Bool
is_kept_out m now p = not p.is_leaving && is_down m p.node && nat_lt 0 (stay_left m.arrivals now p.node)

-- whether the session that holds the lease of a node came soon after another one, so that it must stay longer
abbrev pub is_returning : List Arrival → (ttl node : ℕ) → Bool
is_returning arrivals ttl node =
    option_map_or (λ (a : Arrival). nat_lt (first_stay ttl) a.stay) (slice_get arrivals (node - 1)) false

-- ... and stays longer for that alone
abbrev pub is_held_off : MemberState → (now : ℕ) → Lease → Bool
is_held_off m now p = is_kept_out m now p && is_returning m.arrivals m.ttl p.node

-- whether the node was admitted when the last snapshot was read
abbrev pub is_in_group : MemberState → ℕ → Bool
is_in_group m i = is_member m.group i

-- how many higher nodes are live
abbrev pub above : MemberState → ℕ
above m = min (count_by (λ p. nat_lt m.terms.node p.node) m.leases) NODES_MAX

-- whether it goes by what others have promised when it finds whether the group is stable: in a cooperative group only
-- the highest live node does, whose turn comes first. So a change costs the others no promise to read
abbrev pub heeds_promises : MemberState → Bool
heeds_promises m = not m.terms.is_cooperative || (above m == 0)

-- the highest offset of this epoch that a session of the group has promised, or the member's own
abbrev pub most_promised : MemberState → ℕ
most_promised m =
    fold (λ most p. max most (offset_in m.terms.epoch p.promise)) (offset_in m.terms.epoch m.own)
    (filter (λ p. is_in_group m p.node) m.leases)

-- the offset after which the last plan must be in a stable group
abbrev pub heeded : MemberState → ℕ
heeded m = if heeds_promises m then most_promised m else offset_in m.terms.epoch m.own

-- what the holder of this lease owns: by a plan after what its session has promised in this epoch
abbrev pub owned_of : MemberState → Lease → Option Owned
owned_of m p = owned_by (replica_of m) p.node (offset_in m.terms.epoch p.promise)

-- whether the log has room for one more rebalance
abbrev pub has_room_in : ReplicaState → Terms → Bool
has_room_in r t = nat_le (r.world.events + REBALANCE_MAX * r.world.setup.nodes) t.rows_max

abbrev pub has_room : MemberState → Bool
has_room m = has_room_in (replica_of m) m.terms

-- whether the epoch has to roll over
abbrev pub closes : ReplicaState → Terms → (has_request : Bool) → Bool
closes r t has_request = has_request || not (has_room_in r t)

abbrev pub is_closing : MemberState → Bool
is_closing m = closes (replica_of m) m.terms m.has_request

abbrev pub are_no_nodes : List ℕ → Bool
are_no_nodes [] = true
are_no_nodes (i ∷ nodes) = false

-- the table of the rebalance that would be appended now: none in an eager group, in one whose epoch has to roll over,
-- and while no node is admitted
abbrev pub coming_by : ReplicaState → Terms → (has_request : Bool) → (group : List ℕ) → Option (List ℕ)
coming_by r t has_request group =
    if not t.is_cooperative || closes r t has_request || are_no_nodes group then None else
    Some (planned r.world.setup (table_before r.last t.old) group)

-- whom a change affects, who has to promise something before it: in an eager group all live nodes; in a cooperative one
-- those that lose something, if the coming table follows that of the last plan, or if none does
abbrev pub IsAffected : Bool → ReplicaState → List Lease → (coming : Option (List ℕ)) → ℕ → Type 0
IsAffected false r leases coming i = Contains (live_of leases) i
IsAffected true r leases coming i = (p : Planned) × (r.last ≡ Some p) × Loses p.table coming i

-- what is coming and whom that affects, by what the member has learned and found
pub record IsForeseen (r : ReplicaState) (t : Terms) (leases : List Lease) (has_request : Bool)
    (group : List ℕ) (coming : Option (List ℕ)) (affected : List ℕ) : Type 0 where
  pub falling : IsFallingBelow (r.world.setup.nodes + 1) group
  pub live : IsFallingBelow (r.world.setup.nodes + 1) (live_of leases)
  pub comes : coming ≡ coming_by r t has_request group
  pub affects : (i : ℕ) → Contains affected i ↔ IsAffected t.is_cooperative r leases coming i

abbrev pub Foresees : MemberState → Type 0
Foresees m = IsForeseen (replica_of m) m.terms m.leases m.has_request m.group m.coming m.affected

-- the group is stable among the nodes that were admitted, by a plan at or after each offset that one of them has
-- promised, as far as the member goes by that, and after all that this session has ever promised; and the epoch doesn't
-- have to roll over
pub record SeesStable (m : MemberState) : Type 0 where
  pub stable : IsStable (replica_of m) m.group (heeded m)
  pub behind : m.promised < token_of (replica_of m).last
  pub goes_on : is_closing m ≡ false

-- all nodes of the group are Down
abbrev pub AllAreDown : MemberState → Type 0
AllAreDown m = IsStable (replica_of m) [] 0

-- whether all leases are of this node
abbrev pub are_of : ℕ → List Lease → Bool
are_of node leases = list_all (λ p. p.node == node) leases

-- whether the store is known to have the promise of the log's end, keeping exactly what the member works on
abbrev pub has_promised : MemberState → Bool
has_promised m = same_promise m.own (here m) && m.is_exact

abbrev pub is_affected : MemberState → ℕ → Bool
is_affected m i = is_member m.affected i

-- whether a change may be made as far as it affects the holder of this lease: that is another node's, and isn't
-- affected; or has promised the end of the log, and the coming table leaves it what it keeps. (Without one it has to
-- keep nothing.)
abbrev pub is_ready : MemberState → Lease → Bool
is_ready m p = (p.node == m.terms.node) || not (is_affected m p.node)
    || (same_promise p.promise (here m) && list_all (is_left m.coming p.node) p.kept)

-- whether a change may be made as far as it affects the member itself
abbrev pub is_ready_itself : MemberState → Bool
is_ready_itself m = not (is_affected m m.terms.node) || has_promised m

-- whether a change may be made. In an eager group an unknown process has to promise, too
abbrev pub all_ready : MemberState → Bool
all_ready m = (m.terms.is_cooperative || not m.has_unknown) && is_ready_itself m && list_all (is_ready m) m.leases

abbrev pub are_none : List Lease → Bool
are_none [] = true
are_none (p ∷ ps) = false

-- the lease of the node, if somebody holds it
abbrev pub lease_of : ℕ → List Lease → Option Lease
lease_of node leases = find (λ p. p.node == node) leases

-- whether nobody else holds a lease
abbrev pub is_alone : MemberState → Bool
is_alone m = not m.has_unknown && are_of m.terms.node m.leases

-- each lease is that of a node of the group
abbrev pub AreNodes : RowReplicaState → List Lease → Type 0
AreNodes f leases = All (λ (p : Lease). IsNode f.replica.world.setup p.node) leases

-- what its type keeps
pub record IsMember (f : RowReplicaState) (t : Terms) (ttl : ℕ) (leases : List Lease) (arrivals : List Arrival)
    (group : List ℕ) (works : List Activity) : Type 0 where
  pub fits : terms_fault f.replica.world.setup t ≡ None
  pub paced : ttl ≤ TTL_MAX
  pub nodes : AreNodes f leases
  pub sized : length arrivals ≡ f.replica.world.setup.nodes
  pub falls : IsFallingBelow (f.replica.world.setup.nodes + 1) group
  pub partitions : length works ≡ f.replica.world.setup.partitions
  pub few : length works ≤ PARTITIONS_MAX

-- ... while no other snapshot is due
abbrev pub SeesAhead : (needs_snapshot : Bool) → ReplicaState → Terms → List Lease → (has_request : Bool)
    → (group : List ℕ) → (coming : Option (List ℕ)) → (affected : List ℕ) → Type 0
SeesAhead true r t leases has_request group coming affected = Unit {0}
SeesAhead false r t leases has_request group coming affected = IsForeseen r t leases has_request group coming affected

-- no session was seen for a node
abbrev pub nobody_yet : Arrival
nobody_yet = record { session = None; at = 0; stay = 0 }

abbrev pub member_with : RowReplicaState → List Arrival → List Activity → Terms → (process ttl : ℕ) → MemberState
member_with f arrivals works t process ttl = record {
  learned = f;
  terms = t;
  process = process;
  ttl = ttl;
  session = SessionState.Absent;
  tries = 0;
  promised = 0;
  own = record { epoch = 0; offset = 0 };
  is_exact = false;
  leases = [];
  arrivals = arrivals;
  group = [];
  coming = None;
  affected = [];
  has_unknown = false;
  has_request = false;
  needs_snapshot = true;
  last_change = record { at = 0; offset = 0 };
  is_past = false;
  has_closed = false;
  works = works;
  token = 0;
  is_lost = false;
  ending = None;
  paused = None;
  asked = None;
  is_asked_exact = false;
}

-- a member that has learned nothing, and asked for nothing
abbrev pub new_member : Header → Terms → (process ttl : ℕ) → MemberState
new_member header t process ttl = member_with (record { replica = first_replica header; rows = 0 })
    (replicate header.setup.nodes nobody_yet) (replicate header.setup.partitions Activity.Idle) t process ttl
