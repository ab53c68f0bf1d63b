-- How a member changes by what is reported to it.
use Rattle.std.specs.Prelude.{◌≡◌, ◌==◌, ◌&&◌, ◌||◌, not, if◌then◌else◌, ℕ, Bool, true, false, List, [], Option, Some, None, length}
use Rattle.std.specs.Prelude.{fold, nat_lt, ◌-◌, slice_get, slice_set, bytes_eq}
use Rattle.std.specs.List.{list_all, zip}
use Rattle.std.specs.Option.{option_map_or}
use Rattle.bully_member.specs.Activities.{all_idle, any_working, busy, changed, end_at, ended_at}
use Rattle.bully_member.specs.Due.{is_none_of, with_works}
use Rattle.bully_base.specs.NodeSet.{with_node}
use Rattle.bully_member.specs.Member.{MemberState, SeesAhead, admitted_among, is_down, is_in_group, offset_of, lease_of}
use Rattle.bully_member.specs.Member.{replica_of}
use Rattle.bully_member.specs.Member.{same_promise}
use Rattle.bully_member.specs.Times.{first_stay, longer_stay, remembered_for}
use Rattle.bully_member.specs.declared.values.Arrival.{Arrival}
use Rattle.bully_member.specs.declared.values.Asked.{Asked}
use Rattle.bully_member.specs.declared.values.Ending.{Ending}
use Rattle.bully_member.specs.declared.values.SessionId.{SessionId}
use Rattle.bully_member.specs.declared.values.SessionState.{SessionState}
use Rattle.bully_member.specs.declared.values.Lease.{Lease}
use Rattle.bully_member.specs.declared.values.Promise.{Promise}
use Rattle.bully_member.specs.declared.values.Request.{Request}
use Rattle.bully_member.specs.declared.values.StoreAnswer.{StoreAnswer}
use Rattle.bully_member.specs.declared.values.LastChange.{LastChange}
use Rattle.bully_rebalance.specs.Rebalancing.{is_member}
use Rattle.bully_replica.specs.Replica.{token_of}

abbrev pub same_bool : Bool → Bool → Bool
same_bool true b = b
same_bool false b = not b

abbrev pub same_session : SessionId → SessionId → Bool
same_session a b = (a.process == b.process) && (a.number == b.number)

-- it must read a snapshot again
abbrev pub to_snapshot : MemberState → MemberState
to_snapshot m = record m { needs_snapshot = true }

-- it asks for nothing during a pause
abbrev pub to_pause : MemberState → (now : ℕ) → MemberState
to_pause m now = record m { paused = Some now }

-- its session is over
abbrev pub to_end_session : MemberState → MemberState
to_end_session m = record (to_snapshot m) { session = SessionState.Absent }

-- what became of a request to acquire the lease for this session, which was asked for at this time
abbrev pub when_acquired : MemberState → (now : ℕ) → StoreAnswer → SessionId → (offset at : ℕ) → MemberState
when_acquired m now StoreAnswer.Done session offset at =
    record (to_snapshot m) {
      session = SessionState.Live session at;
      own = record { epoch = m.terms.epoch; offset = offset };
      is_exact = all_idle m.works;
    }
when_acquired m now StoreAnswer.Refused session offset at = to_snapshot m
when_acquired m now StoreAnswer.Unanswered session offset at =
    record (to_pause (to_snapshot m) now) { session = SessionState.Unknown session }

-- ... to renew it: the lease counts from when that was asked for
abbrev pub when_renewed : MemberState → (now : ℕ) → StoreAnswer → SessionId → (at : ℕ) → MemberState
when_renewed m now StoreAnswer.Done session at = record m { session = SessionState.Live session at }
when_renewed m now StoreAnswer.Refused session at = to_end_session m
when_renewed m now StoreAnswer.Unanswered session at = to_pause m now

abbrev pub when_released : MemberState → (now : ℕ) → StoreAnswer → MemberState
when_released m now StoreAnswer.Unanswered = to_pause (to_end_session m) now
when_released m now answer = to_end_session m

abbrev pub when_promised : MemberState → (now : ℕ) → StoreAnswer → (offset : ℕ) → MemberState
when_promised m now StoreAnswer.Done offset =
    record m { own = record { epoch = m.terms.epoch; offset = offset }; is_exact = m.is_asked_exact }
when_promised m now StoreAnswer.Refused offset = to_snapshot m
when_promised m now StoreAnswer.Unanswered offset = to_pause (to_snapshot m) now

abbrev pub when_appended : MemberState → (now : ℕ) → StoreAnswer → MemberState
when_appended m now StoreAnswer.Unanswered = to_pause (to_snapshot m) now
when_appended m now answer = to_snapshot m

abbrev pub when_rolled_over : MemberState → (now : ℕ) → StoreAnswer → MemberState
when_rolled_over m now StoreAnswer.Done = record m { is_past = true }
when_rolled_over m now StoreAnswer.Refused = to_snapshot m
when_rolled_over m now StoreAnswer.Unanswered = to_pause (to_snapshot m) now

-- depending on its session
abbrev pub acquired_by : SessionState → MemberState → MemberState → MemberState
acquired_by SessionState.Absent m after = after
acquired_by session m after = m

abbrev pub renewed_by : SessionState → MemberState → MemberState → MemberState
renewed_by (SessionState.Live session since) m after = after
renewed_by session m after = m

-- what became of a request that was asked for at this time. A Snapshot or a Follow whose result doesn't come counts as
-- not answered
abbrev pub when_answered : MemberState → (now : ℕ) → StoreAnswer → Request → (at : ℕ) → MemberState
when_answered m now answer (Request.Acquire session offset) at =
    acquired_by m.session m (when_acquired m now answer session offset at)
when_answered m now answer (Request.Renew session) at = renewed_by m.session m (when_renewed m now answer session at)
when_answered m now answer (Request.Release session) at = when_released m now answer
when_answered m now answer Request.Snapshot at = to_pause m now
when_answered m now answer (Request.Promise session offset) at = when_promised m now answer offset
when_answered m now answer (Request.Append offset) at = when_appended m now answer
when_answered m now answer (Request.RollOver offset) at = when_rolled_over m now answer
when_answered m now answer Request.Follow at = to_pause m now

abbrev pub answered_by : MemberState → (now : ℕ) → StoreAnswer → Option Asked → MemberState
answered_by m now answer None = m
answered_by m now answer (Some asked) = when_answered (record m { asked = None }) now answer asked.request asked.at

abbrev pub answered : MemberState → (now : ℕ) → StoreAnswer → MemberState
answered m now answer = answered_by m now answer m.asked

-- Who holds a lease.

-- whether nothing is new about a lease. A promise is in an eager group alone, where each member goes by all promises
abbrev pub same_lease : (is_cooperative : Bool) → Lease → Lease → Bool
same_lease is_cooperative p q =
    (p.node == q.node) && same_session p.session q.session && same_bool p.is_leaving q.is_leaving
    && (is_cooperative || (same_promise p.promise q.promise && bytes_eq p.kept q.kept))

-- whether that is so of each in both lists, as far as both go
abbrev pub alike : (is_cooperative : Bool) → List Lease → List Lease → Bool
alike is_cooperative ps qs = list_all (λ (pair : Lease × Lease). same_lease is_cooperative pair.0 pair.1) (zip ps qs)

abbrev pub same_leases : (is_cooperative : Bool) → List Lease → List Lease → Bool
same_leases is_cooperative ps qs = (length ps == length qs) && alike is_cooperative ps qs

-- what this session has promised by the lease of its node, and whether that keeps exactly what it works on
abbrev pub own_promise : MemberState → SessionId → Option Lease → Option (Promise × Bool)
own_promise m session None = None
own_promise m session (Some p) =
    if same_session p.session session then Some (p.promise, bytes_eq (busy m.works) p.kept) else None

-- how the member changes by that: its session is over if nobody, or another session, holds the lease
abbrev pub own_by_promise : MemberState → Option (Promise × Bool) → MemberState
own_by_promise m None = to_end_session m
own_by_promise m (Some own) = record m { own = own.0; is_exact = own.1 }

abbrev pub own_of : MemberState → SessionId → Option Lease → MemberState
own_of m session here = own_by_promise m (own_promise m session here)

abbrev pub own_by : MemberState → SessionState → Option Lease → MemberState
own_by m (SessionState.Live session since) here = own_of m session here
own_by m session here = m

-- since when nothing of this has changed: where the log ends, who holds a lease and who of them is known to leave, in an
-- eager group with which promise, and whether other settings are requested
abbrev pub last_change_then : MemberState → (now : ℕ) → List Lease → (has_request : Bool) → LastChange
last_change_then m now leases has_request =
    if (offset_of m == m.last_change.offset) && same_leases m.terms.is_cooperative m.leases leases && same_bool m.has_request has_request
    then m.last_change
    else record { at = now; offset = offset_of m }

-- whether the session that was seen is this one
abbrev pub is_same_session : Option SessionId → SessionId → Bool
is_same_session None session = false
is_same_session (Some seen) session = same_session seen session

-- how long a new session must stay
abbrev pub stay_of : Arrival → (ttl now : ℕ) → ℕ
stay_of a ttl now = if not (is_none_of a.session) && nat_lt (now - a.at) (remembered_for ttl)
    then longer_stay a.stay ttl else first_stay ttl

-- whether the last rebalance of a cooperative group passed over the node of this lease: it came since the last
-- snapshot, at which the node was admitted, and the node is still Down. So its writer hadn't admitted it
abbrev pub is_passed : MemberState → Lease → Bool
is_passed m p = m.terms.is_cooperative && nat_lt m.last_change.offset (token_of (replica_of m).last)
    && is_in_group m p.node && is_down m p.node

-- with one more node, if it was passed over
abbrev pub with_passed : MemberState → List ℕ → Lease → List ℕ
with_passed m nodes p = if is_passed m p then with_node p.node nodes else nodes

-- the nodes of those of these leases that were passed over, in falling order
abbrev pub passed_among : MemberState → List Lease → List ℕ
passed_among m leases = fold (with_passed m) [] leases

-- what is noted of a session that holds the lease of a node, after this was noted for that node: if it is known, and was
-- passed over, it must stay longer from now on
abbrev pub arrived : Arrival → SessionId → (is_passed : Bool) → (ttl now : ℕ) → Arrival
arrived a session is_passed ttl now =
    if not (is_same_session a.session session)
    then record { session = Some session; at = now; stay = stay_of a ttl now } else
    if is_passed then record a { at = now; stay = longer_stay a.stay ttl } else a

-- ... of one lease, and of all
abbrev pub with_arrival : (ttl now : ℕ) → (passed : List ℕ) → List Arrival → Lease → List Arrival
with_arrival ttl now passed arrivals p = option_map_or (λ (a : Arrival).
    slice_set arrivals (p.node - 1) (arrived a p.session (is_member passed p.node) ttl now))
    (slice_get arrivals (p.node - 1)) arrivals

abbrev pub arrivals_then : (ttl now : ℕ) → (passed : List ℕ) → List Arrival → List Lease → List Arrival
arrivals_then ttl now passed arrivals leases = fold (with_arrival ttl now passed) arrivals leases

-- what is noted of the sessions that are seen for the first time, or were passed over
abbrev pub with_arrivals : MemberState → (now : ℕ) → List Lease → MemberState
with_arrivals m now leases = record m { arrivals = arrivals_then m.ttl now (passed_among m leases) m.arrivals leases }

-- what was found, and what that foresees
abbrev pub found : MemberState → (now : ℕ) → List Lease → (has_unknown has_request : Bool) → (group : List ℕ)
    → (coming : Option (List ℕ)) → (affected : List ℕ) → MemberState
found m now leases has_unknown has_request group coming affected =
    record m {
      leases = leases;
      group = group;
      coming = coming;
      affected = affected;
      has_unknown = has_unknown;
      has_request = has_request;
      needs_snapshot = false;
      last_change = last_change_then m now leases has_request;
      asked = None;
    }

-- how it changes by who holds the lease of its own node
abbrev pub with_own : MemberState → MemberState
with_own m = own_by m m.session (lease_of m.terms.node m.leases)

-- what the member is after a snapshot of its epoch, once these sessions are noted
abbrev pub found_here : MemberState → (now : ℕ) → List Lease → (has_unknown has_request : Bool)
    → (coming : Option (List ℕ)) → (affected : List ℕ) → MemberState
found_here m now leases has_unknown has_request coming affected =
    with_own (found m now leases has_unknown has_request (admitted_among m now leases) coming affected)

abbrev pub is_snapshot : Request → Bool
is_snapshot Request.Snapshot = true
is_snapshot request = false

abbrev pub awaits_snapshot : Option Asked → Bool
awaits_snapshot None = false
awaits_snapshot (Some asked) = is_snapshot asked.request

-- what the member is after it has read a snapshot, by what it then sees ahead
abbrev pub snapshot_read : MemberState → (now epoch : ℕ) → List Lease → (has_unknown has_request : Bool)
    → (coming : Option (List ℕ)) → (affected : List ℕ) → MemberState
snapshot_read m now epoch leases has_unknown has_request coming affected =
    if not (awaits_snapshot m.asked) then m else
    if not (epoch == m.terms.epoch) then record m { is_past = true; asked = None } else
    found_here (with_arrivals m now leases) now leases has_unknown has_request coming affected

-- a snapshot is awaited, and this epoch is the member's
abbrev pub TakesIn : MemberState → (epoch : ℕ) → Type 0
TakesIn m epoch = (awaits_snapshot m.asked ≡ true) × (epoch ≡ m.terms.epoch)

-- if it needs no other one, it sees what is coming
abbrev pub SeesIfFound : MemberState → Type 0
SeesIfFound m = SeesAhead m.needs_snapshot (replica_of m) m.terms m.leases m.has_request m.group m.coming m.affected

-- ... if an allocation failed: it notes which sessions it saw, and reads another one after a pause
abbrev pub snapshot_lost : MemberState → (now : ℕ) → List Lease → MemberState
snapshot_lost m now leases = to_pause (record (with_arrivals m now leases) { needs_snapshot = true; asked = None }) now

-- Its work, and its end.

abbrev pub end_for : MemberState → Ending → Option Ending → MemberState
end_for m why None = record m { ending = Some why }
end_for m why (Some ending) = m

-- the work by this token has ended by itself: nothing changes if the member didn't begin by that token last, or works
-- on nothing that it wasn't asked to stop
abbrev pub lost : MemberState → (token : ℕ) → MemberState
lost m token = if (token == m.token) && any_working m.works then record m { is_lost = true } else m

-- all work has ended
abbrev pub stopped : MemberState → MemberState
stopped m = record (with_works m (changed end_at m.works)) { is_lost = false }

-- the work on partition k has ended
abbrev pub stopped_on : MemberState → (k : ℕ) → MemberState
stopped_on m k = with_works m (changed (ended_at k) m.works)
