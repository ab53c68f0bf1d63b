-- A round of a run, from whatever state that has reached. Which premises of a round the run itself gives, and which are
-- left, each with a name.
use Rattle.std.specs.Prelude.{◌≡◌, ◌≤◌, ◌++◌, ◌==◌, if◌then◌else◌, ℕ, Bool, true, false, List, [], ◌∷◌, Contains}
use Rattle.std.specs.Prelude.{Option, Some, length, map, take}
use Rattle.bully_agree.specs.Fencing.{Planned}
use Rattle.bully_base.specs.Setup.{IsNode}
use Rattle.bully_calls.specs.declared.event.Event.{Event}
use Rattle.bully_member.specs.Asking.{IsOwn}
use Rattle.bully_member.specs.Due.{Sees, is_newcomer}
use Rattle.bully_member.specs.Member.{MemberState, is_affected, is_closing, is_in_group, offset_of, replica_of}
use Rattle.bully_member.specs.Rebalance.{rebalanced_nodes}
use Rattle.bully_member.specs.Told.{SeesIfFound, to_snapshot}
use Rattle.bully_member.specs.declared.values.Lease.{Lease}
use Rattle.bully_member.specs.declared.values.Sight.{Sight}
use Rattle.bully_replica.specs.Replica.{IsLogOf, IsReplica, ReplicaState}
use Rattle.bully_round.specs.Group.{Appends, IsAtRest, Passage, ready_in}
use Rattle.bully_round.specs.Progress.{IsCalm, TakesTurn, Turn, is_task, to_do}
use Rattle.bully_run.specs.Calls.{Call, Next, session_now}
use Rattle.bully_run.specs.Run.{Done, Goes, Happening, Happens, HasRun, Run, RunsBy, SentAppend, Told, id_of}
use Rattle.bully_work.specs.Store.{IsLive, IsUnchanged, Lease as Held, current}
use Rattle.bully_world.specs.State.{world_of}

-- What a run gives.

-- process p acts for this name, and its member is this
pub record HasMember (R : Run) (p : ℕ) (m : MemberState) : Type 0 where
  pub name : ℕ
  pub there : R.processes p ≡ Some (record { name = name; member = m })

-- m acts for this name in its epoch, whose setup it has. It has learned the beginning of the epoch's log, has promised
-- no more than it has learned, and has an activity for each partition
pub record IsPartOf (R : Run) (name : ℕ) (m : MemberState) : Type 0 where
  pub started : m.terms.epoch ≤ R.store.epoch
  pub setup : (replica_of m).world.setup ≡ (R.store.epochs m.terms.epoch).setup
  pub number : m.terms.node ≡ (R.store.epochs m.terms.epoch).number name
  pub learned : IsLogOf (replica_of m) (take (offset_of m) (R.store.epochs m.terms.epoch).log)
  pub within : offset_of m ≤ length (R.store.epochs m.terms.epoch).log
  pub promised : m.promised ≤ offset_of m
  pub sized : length m.works ≡ (replica_of m).world.setup.partitions

-- two replicas of one log: only the version of its rows isn't compared, and how their worlds are stored
pub record IsSameReplica (r t : ReplicaState) : Type 0 where
  pub setup : r.world.setup ≡ t.world.setup
  pub world : world_of r.world ≡ world_of t.world
  pub events : r.world.events ≡ t.world.events
  pub last : r.last ≡ t.last

-- P follows from what the type of a member keeps: a log leads to its replica, and there is an activity for each
-- partition of the last plan's table. A run gives both
abbrev pub InRun : MemberState → Type 0 → Type 0
InRun m P =
    IsReplica (replica_of m) → ((p : Planned) → (replica_of m).last ≡ Some p → length p.table ≤ length m.works) → P

-- it is in the current epoch, and has learned its whole log
pub record IsUpTo (R : Run) (m : MemberState) : Type 0 where
  pub epoch : m.terms.epoch ≡ R.store.epoch
  pub whole : offset_of m ≡ length (current R.store).log

-- both have found the same, in an epoch that is the same for both, but for their nodes
pub record HasFoundSame (m n : MemberState) : Type 0 where
  pub terms : n.terms ≡ record m.terms { node = n.terms.node }
  pub leases : n.leases ≡ m.leases
  pub request : n.has_request ≡ m.has_request
  pub group : n.group ≡ m.group

-- Turns.

-- the run goes on from the one moment to the other
abbrev pub GoesOn : Run → Run → Type 0
GoesOn R R' = (happenings : List Happening) × RunsBy R happenings R'

-- the calls on process p's member among what happens
abbrev pub call_on : ℕ → Happening → List Call
call_on p (Goes r now step deed) = if p == r then Next now step ∷ [] else []
call_on p (Told r call) = if p == r then call ∷ [] else []
call_on p other = []

abbrev pub calls_on : ℕ → List Happening → List Call
calls_on p [] = []
calls_on p (h ∷ happenings) = call_on p h ++ calls_on p happenings

-- by these turns process p's member becomes another one, between these moments: at each it does something that was
-- left, and was calm before. What the turn makes of it, it is at a later moment
abbrev pub TakesTurns : Run → (p : ℕ) → MemberState → List Turn → Run → MemberState → Type 0
TakesTurns R p m [] R' after = GoesOn R R' × (after ≡ m)
TakesTurns R p m (t ∷ turns) R' after = (mid : Run) × (next : MemberState) × GoesOn R mid × HasMember mid p next
    × InRun m (IsCalm m t.now) × TakesTurn m t.now t.at t.step next × (is_task t.step ≡ true)
    × TakesTurns mid p next turns R' after

-- process p goes through a round: from the first moment on it does what it has to do, and has promised; it is woken,
-- does that again, and is ready at the second moment; it is woken once more, and does what is left until the last
pub record GoesThrough (start ready last : Run) (p : ℕ) (x : Passage) : Type 0 where
  pub starts : HasMember start p x.start
  pub done : Run
  pub promises : TakesTurns start p x.start x.first done x.promised
  pub woken : Run
  pub wakes : GoesOn done woken
  pub looks_again : HasMember woken p (to_snapshot x.promised)
  pub looks : TakesTurns woken p (to_snapshot x.promised) x.second ready x.ready
  pub is_ready : HasMember ready p x.ready
  pub again : Run
  pub wakes_again : GoesOn ready again
  pub looks_then : HasMember again p (to_snapshot x.ready)
  pub goes_on : TakesTurns again p (to_snapshot x.ready) x.third last x.last
  pub lasts : HasMember last p x.last

-- Leases.

-- a lease that was reported is the store's
pub record IsTold (R : Run) (p : Lease) : Type 0 where
  pub name : ℕ
  pub held : Held
  pub live : R.store.live name ≡ Some held
  pub node : p.node ≡ (current R.store).number name
  pub epoch : held.promised.epoch ≡ p.promise.epoch
  pub offset : held.promised.offset ≡ p.promise.offset
  pub kept : held.promised.kept ≡ p.kept

-- m has its lease by its last session, and knows what that has promised there
pub record HasLease (R : Run) (name : ℕ) (m : MemberState) : Type 0 where
  pub live : IsLive R.store name (id_of (session_now m))
  pub knows : (here : Held) → R.store.live name ≡ Some here → IsOwn m m.terms.node here

-- At one moment these members, and nobody else, hold leases, and each is in the current epoch, has learned its whole
-- log, and has read of nothing but the store's leases.
pub record AreTogether (R : Run) (ms : List MemberState) : Type 0 where
  pub members : (m : MemberState) → Contains ms m → (p : ℕ) × HasMember R p m
  pub up_to : (m : MemberState) → Contains ms m → IsUpTo R m
  pub told : (m : MemberState) (p : Lease) → Contains ms m → Contains m.leases p → IsTold R p
  pub has : (m : MemberState) (p : ℕ) (at : HasMember R p m) → Contains ms m → HasLease R at.name m
  pub holders : (name : ℕ) (here : Held) → R.store.live name ≡ Some here
      → (m : MemberState) × (p : ℕ) × (at : HasMember R p m) × Contains ms m × (at.name ≡ name)

-- Before the change: none has anything left to do, the group isn't stable for any, and all have found the same. (What a
-- member sees ahead, its type keeps.)
pub record AreReady (R : Run) (ms : List MemberState) : Type 0 where
  pub together : AreTogether R ms
  pub rest : (m : MemberState) → Contains ms m → (now : ℕ) × InRun m (IsAtRest m now false)
  pub old : (m : MemberState) → Contains ms m → is_newcomer m ≡ false
  pub alike : (m n : MemberState) → Contains ms m → Contains ms n → HasFoundSame m n
  pub ahead : (m : MemberState) → Contains ms m → SeesIfFound m
  pub known : (m : MemberState) → Contains ms m → m.has_unknown ≡ false

-- Who is asked for w's change: nobody else than whom it affects. In a cooperative group their leases are named as the
-- store has them
pub record NamesReady (R : Run) (w : MemberState) (silent : ℕ → Bool) (seen : ℕ → Option Held) : Type 0 where
  pub affected : (name : ℕ) (here : Held) → R.store.live name ≡ Some here → silent name ≡ false
      → is_affected w ((current R.store).number name) ≡ true
  pub found : w.terms.is_cooperative ≡ true → (name : ℕ) → silent name ≡ false → seen name ≡ R.store.live name

-- The change: the store does this, which was sent, and nothing else becomes of the log.
pub record IsAppended (R : Run) (w : MemberState) (more : List Event) (R' : Run) : Type 0 where
  pub offset : ℕ
  pub silent : ℕ → Bool
  pub seen : ℕ → Option Held
  pub before : Run
  pub comes : GoesOn R before
  pub unchanged : IsUnchanged R.store before.store
  pub behind : Run
  pub done : Happens before (Done (SentAppend w offset silent seen more)) behind
  pub goes : GoesOn behind R'
  pub still : IsUnchanged behind.store R'.store

-- So R' comes right after R: w had learned the whole log of the current epoch. What it appends rebalances the group,
-- among nodes of the setup; and the log is longer by that
pub record IsGrownBy (R : Run) (w : MemberState) (more : List Event) (R' : Run) : Type 0 where
  pub epoch : w.terms.epoch ≡ R.store.epoch
  pub learned : IsLogOf (replica_of w) (current R.store).log
  pub appends : Appends w (current R.store).log more
  pub nodes : (i : ℕ) → Contains (rebalanced_nodes w) i → IsNode (replica_of w).world.setup i
  pub now : R'.store.epoch ≡ R.store.epoch
  pub log : (current R'.store).log ≡ (current R.store).log ++ more

-- After the change n has nothing left to do. The same nodes are admitted, and its own is one of them; it hasn't
-- promised more than the end of the log before; and the epoch needn't roll over.
pub record IsDoneBy (w : MemberState) (log : List Event) (n : MemberState) : Type 0 where
  pub same : n.group ≡ rebalanced_nodes w
  pub admitted : is_in_group n n.terms.node ≡ true
  pub promised : n.promised ≤ length log
  pub goes_on : is_closing n ≡ false
  pub now : ℕ
  pub sight : Sight
  pub calm : InRun n (IsCalm n now)
  pub sees : Sees n now sight
  pub none : to_do n sight ≡ 0

abbrev pub last_in : Passage → MemberState
last_in x = x.last

-- A round of a run, from the moment `start` to the moment `last`, whatever happened before.
pub record IsRoundFrom (start : Run) (xs : List Passage) (w : MemberState) (more : List Event) (last : Run)
    : Type 0 where
  pub happenings : List Happening
  pub run : HasRun happenings start
  pub ready : Run
  pub gets_ready : GoesOn start ready
  pub passes : (x : Passage) → Contains xs x → (p : ℕ) × GoesThrough start ready last p x
  pub are_ready : AreReady ready (map ready_in xs)
  pub writer : Contains (map ready_in xs) w
  pub appended : IsAppended ready w more last
  pub are_done : AreTogether last (map last_in xs)
  pub done : (x : Passage) → Contains xs x → IsDoneBy w (current ready.store).log x.last
  pub all : (i : ℕ) → Contains (rebalanced_nodes w) i → (x : Passage) × Contains xs x × (x.last.terms.node ≡ i)
