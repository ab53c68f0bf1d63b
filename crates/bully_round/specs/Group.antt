-- The members of a group who all have one view of the store, and what a rebalance makes of it.
use Rattle.std.specs.Prelude.{◌≡◌, ◌<◌, ◌≤◌, ◌+◌, ◌-◌, ◌/◌, ◌++◌, ℕ, Bool, true, false, List, [], ◌∷◌, Contains}
use Rattle.std.specs.Prelude.{Some, length, map}
use Rattle.bully_base.specs.Setup.{IsNode}
use Rattle.bully_calls.specs.declared.event.Event.{Event}
use Rattle.bully_member.specs.Activities.{busy}
use Rattle.bully_member.specs.Due.{Sees, is_newcomer}
use Rattle.bully_member.specs.Member.{MemberState, is_affected, is_closing, lease_of, offset_in, offset_of, replica_of}
use Rattle.bully_member.specs.Rebalance.{rebalanced_nodes}
use Rattle.bully_member.specs.Told.{to_snapshot}
use Rattle.bully_member.specs.declared.values.Lease.{Lease}
use Rattle.bully_member.specs.declared.values.Request.{Request}
use Rattle.bully_member.specs.declared.values.Sight.{Sight}
use Rattle.bully_member.specs.declared.values.Step.{Step}
use Rattle.bully_rebalance.specs.Rebalancing.{Rebalances, table_before}
use Rattle.bully_replica.specs.Replica.{IsLogOf}
use Rattle.bully_round.specs.Progress.{DoesTasks, IsCalm, ShowsChange, TakesTurn, Turn, to_do}
use Rattle.bully_table.specs.Planning.{planned}

-- at this moment the member is calm, and has nothing left to do by itself, in a group that is stable for it or isn't
pub record IsAtRest (m : MemberState) (now : ℕ) (is_stable : Bool) : Type 0 where
  pub sight : Sight
  pub calm : IsCalm m now
  pub sees : Sees m now sight
  pub stable : sight.is_stable ≡ is_stable
  pub none : to_do m sight ≡ 0

-- both have learned as much of one epoch, and foresee the same change
pub record HasSameView (m n : MemberState) : Type 0 where
  pub offset : offset_of m ≡ offset_of n
  pub epoch : m.terms.epoch ≡ n.terms.epoch
  pub coming : m.coming ≡ n.coming
  pub affected : (i : ℕ) → is_affected m i ≡ is_affected n i

-- this is the lease of member n, as its last promise that was done left it
pub record IsLeaseOf (n : MemberState) (p : Lease) : Type 0 where
  pub node : p.node ≡ n.terms.node
  pub promise : p.promise ≡ n.own
  pub kept : n.is_exact ≡ true → p.kept ≡ busy n.works

-- Before the change: all these members have the same view, in which each lease is that of one of them. Each has done
-- what it has to do by itself, and none is a newcomer.
pub record HaveOneView (ms : List MemberState) : Type 0 where
  pub rest : (m : MemberState) → Contains ms m → (now : ℕ) × IsAtRest m now false
  pub old : (m : MemberState) → Contains ms m → is_newcomer m ≡ false
  pub alike : (m n : MemberState) → Contains ms m → Contains ms n → HasSameView m n
  pub leases : (m : MemberState) (p : Lease) → Contains ms m → Contains m.leases p
      → (n : MemberState) × Contains ms n × IsLeaseOf n p
  pub known : (m : MemberState) → Contains ms m → m.has_unknown ≡ false

-- w appends these events to this log: they rebalance the group among the nodes that w has found
abbrev pub Appends : MemberState → (log more : List Event) → Type 0
Appends w log more = Rebalances (replica_of w).world.setup log (table_before (replica_of w).last w.terms.old)
    (rebalanced_nodes w) more

-- the table of that rebalance
abbrev pub table_of : MemberState → List ℕ
table_of w = planned (replica_of w).world.setup (table_before (replica_of w).last w.terms.old) (rebalanced_nodes w)

-- After the change: member n has learned these events after this log, and read a snapshot. Nobody came or went: the same
-- nodes are admitted, and its own is one of them. Nobody has promised more than the end of the log before. The epoch
-- needn't roll over.
pub record HasLearnedOf (w : MemberState) (log more : List Event) (n : MemberState) : Type 0 where
  pub setup : (replica_of n).world.setup ≡ (replica_of w).world.setup
  pub learned : IsLogOf (replica_of n) (log ++ more)
  pub same : n.group ≡ rebalanced_nodes w
  pub node : IsNode (replica_of n).world.setup n.terms.node
  pub among : Contains (rebalanced_nodes w) n.terms.node
  pub promised : n.promised ≤ length log
  pub own : offset_in n.terms.epoch n.own ≤ length log
  pub others : (p : Lease) → Contains n.leases p → offset_in n.terms.epoch p.promise ≤ length log
  pub goes_on : is_closing n ≡ false

-- What becomes of one member in a round. From any state it does what it has to do, and then has promised. It is woken, as
-- others promise, does again what it has to do, and then is ready for the change. After that it is woken once more.
pub record Passage : Type 0 where
  pub start : MemberState
  pub first : List Turn
  pub promised : MemberState
  pub second : List Turn
  pub ready : MemberState
  pub third : List Turn
  pub last : MemberState

abbrev pub ready_in : Passage → MemberState
ready_in x = x.ready

-- how many turns it takes
abbrev pub turns_in : Passage → ℕ
turns_in x = length x.first + length x.second + length x.third

abbrev pub all_turns : List Passage → ℕ
all_turns [] = 0
all_turns (x ∷ xs) = turns_in x + all_turns xs

-- ... with nothing left to do in the end
pub record Passes (w : MemberState) (log more : List Event) (x : Passage) : Type 0 where
  pub promises : DoesTasks x.start x.first x.promised
  pub looks : DoesTasks (to_snapshot x.promised) x.second x.ready
  pub goes_on : DoesTasks (to_snapshot x.ready) x.third x.last
  pub learned : HasLearnedOf w log more x.last
  pub now : ℕ
  pub sight : Sight
  pub calm : IsCalm x.last now
  pub sees : Sees x.last now sight
  pub none : to_do x.last sight ≡ 0

-- A round: all are ready, in one view. One of them appends a rebalance to the log. All learn it, and do what is left. Each
-- node among which the group is rebalanced is that of one of them.
pub record IsRound (xs : List Passage) (w : MemberState) (log more : List Event) : Type 0 where
  pub view : HaveOneView (map ready_in xs)
  pub writer : Contains (map ready_in xs) w
  pub appends : Appends w log more
  pub passes : (x : Passage) → Contains xs x → Passes w log more x
  pub all : (i : ℕ) → Contains (rebalanced_nodes w) i → (x : Passage) × Contains xs x × (x.last.terms.node ≡ i)

-- Members that look again, as others have promised.

-- m had nothing left to do, was woken, and has read this snapshot. Nothing was appended, and nobody came or went: it
-- foresees the same change. Its own lease is as it left it.
pub record LooksAgain (leases : List Lease) (m after : MemberState) : Type 0 where
  pub before : ℕ
  pub rest : IsAtRest m before false
  pub now : ℕ
  pub at : ℕ
  pub turn : TakesTurn (to_snapshot m) now at (Step.Ask Request.Snapshot) after
  pub seen : turn.reported.leases ≡ leases
  pub replica : replica_of after ≡ replica_of m
  pub group : after.group ≡ m.group
  pub coming : after.coming ≡ m.coming
  pub affected : after.affected ≡ m.affected
  pub own : Lease
  pub there : lease_of m.terms.node leases ≡ Some own
  pub session : own.session ≡ rest.calm.session
  pub its : IsLeaseOf m own

-- a member before and after it looks again, and when it takes its next turn
pub record Look : Type 0 where
  pub before : MemberState
  pub after : MemberState
  pub later : ℕ
  pub sight : Sight

abbrev pub after_in : Look → MemberState
after_in x = x.after

-- All look at the same snapshot, and the group isn't stable for any. They foresaw the same change, and none is a newcomer.
-- Each lease is that of one of them, and no unknown process holds one.
pub record HaveLooked (leases : List Lease) (xs : List Look) : Type 0 where
  pub looks : (x : Look) → Contains xs x → LooksAgain leases x.before x.after
  pub calm : (x : Look) → Contains xs x → IsCalm x.after x.later
  pub sees : (x : Look) → Contains xs x → Sees x.after x.later x.sight
  pub unstable : (x : Look) → Contains xs x → x.sight.is_stable ≡ false
  pub alike : (x y : Look) → Contains xs x → Contains xs y → HasSameView x.before y.before
  pub old : (x : Look) → Contains xs x → is_newcomer x.before ≡ false
  pub owners : (p : Lease) → Contains leases p
      → (x : Look) × Contains xs x × (lease_of x.before.terms.node leases ≡ Some p)
  pub known : (x : Look) → Contains xs x → x.after.has_unknown ≡ false

-- Members that were shown a change.

-- by this snapshot, in which its node has a lease; that was less than a fifth of the ttl ago
pub record IsAlert (leases : List Lease) (m : MemberState) (now : ℕ) (s : Sight) : Type 0 where
  pub before : MemberState
  pub asked : ℕ
  pub at : ℕ
  pub turn : TakesTurn before asked at (Step.Ask Request.Snapshot) m
  pub seen : turn.reported.leases ≡ leases
  pub change : ShowsChange turn.reported.behind leases turn.reported.has_request
  pub own : Lease
  pub there : Contains leases own
  pub its : own.node ≡ m.terms.node
  pub calm : IsCalm m now
  pub sees : Sees m now s
  pub soon : now - at < m.ttl / 5
