-- A store that the processes of a group share over epochs, and what the processes know. Each process acts for the node
-- of one name; an epoch says which node that is. A session of a process works by no plan before an offset that it has
-- promised, except on the partitions that it keeps. A log grows only so that each node that may have work owns all of
-- that after the append, too: what it keeps, if the holder of its lease has promised the end of the log; otherwise all
-- that it owned before. So a change stops only what moves, and asks only the nodes that lose something.
use Rattle.std.specs.Prelude.{◌≡◌, ◌<◌, ◌≤◌, ◌+◌, ◌++◌, ◌⊎◌, ◌&&◌, ◌==◌, ℕ, Bool, true, false, List, [], ◌∷◌}
use Rattle.std.specs.Prelude.{length, take, Contains, Option, Some, None, cond}
use Rattle.std.specs.List.{AllByRecursion}
use Rattle.bully_agree.specs.Fencing.{Planned, IsLastPlan}
use Rattle.bully_agree.specs.Runs.{CanRun, RunsTo}
use Rattle.bully_base.specs.Setup.{Setup}
use Rattle.bully_base.specs.declared.node.Status.TheVariants.{Normal}
use Rattle.bully_calls.specs.declared.event.Event.{Event}
use Rattle.bully_work.specs.Working.{GivesTo}
use Rattle.bully_world.specs.World.{World, vector}

-- a promise: to work by no plan before this offset of this epoch, except on the partitions that are kept. (An offset is
-- the number of events before it. A token counts its plan, too: the plan is at or after an offset exactly if the token
-- is greater.)
pub record Promised : Type 0 where
  pub epoch : ℕ
  pub offset : ℕ
  pub kept : List ℕ

-- who holds the lease of a name: which session of its process, and its promise, as far as the store knows
pub record Lease : Type 0 where
  pub session : ℕ
  pub promised : Promised

-- a partition on which a session works: in which epoch, as which node of that epoch's setup, and by which plan
pub record Piece : Type 0 where
  pub epoch : ℕ
  pub number : ℕ
  pub plan : Planned
  pub partition : ℕ

-- what a session knows and does: how many events of which epoch it has learned, all that it has ever promised, whether
-- or not the store heard of that, and what it works on
pub record Session : Type 0 where
  pub epoch : ℕ
  pub learned : ℕ
  pub promises : List Promised
  pub work : List Piece

-- which session of which name started to work, and on what
pub record Begun : Type 0 where
  pub name : ℕ
  pub session : ℕ
  pub piece : Piece

-- an epoch: its setup, and which node of that each name has; its log, and each length that the log has had
pub record Epoch : Type 0 where
  pub setup : Setup
  pub number : ℕ → ℕ
  pub log : List Event
  pub lengths : List ℕ

-- the number of the current epoch, and what each epoch is; who holds the lease of each name; the sessions of each name;
-- which sessions started to work so far, the newest first
pub record Store : Type 0 where
  pub epoch : ℕ
  pub epochs : ℕ → Epoch
  pub live : ℕ → Option Lease
  pub sessions : ℕ → ℕ → Session
  pub begun : List Begun

-- The acts: five of the store, then four of a session. What a session asks for is done at any time, or never; so is the
-- answer to a snapshot. A lease may end in any way: it is released, or its time is over. A session may still work after
-- its lease has ended. An append and a roll-over say which names are silent: these aren't asked. An append also gives
-- the leases of the other names, as its writer has seen them. A roll-over gives the next epoch's setup, and which node
-- each name has there. A stop gives what is left of the work.
pub data Act : Type 0 where
  Append : (epoch offset : ℕ) (silent : ℕ → Bool) (seen : ℕ → Option Lease) (events : List Event) → Act
  RollOver : (epoch offset : ℕ) (silent : ℕ → Bool) (setup : Setup) (number : ℕ → ℕ) → Act
  Acquire : (name session epoch offset : ℕ) → Act
  Yield : (name session : ℕ) (promised : Promised) → Act
  End : (name : ℕ) → Act
  Learn : (name session epoch offset : ℕ) → Act
  Promise : (name session : ℕ) (promised : Promised) → Act
  Begin : (name session : ℕ) (piece : Piece) → Act
  Stop : (name session : ℕ) (left : List Piece) → Act

abbrev pub with_lease : Store → ℕ → Option Lease → Store
with_lease s i here = record s { live = λ j. cond (j == i) here (s.live j) }

abbrev pub with_session : Store → ℕ → ℕ → Session → Store
with_session s i n session = record s { sessions = λ j m. cond (j == i && m == n) session (s.sessions j m) }

abbrev pub with_epoch : Store → ℕ → Epoch → Store
with_epoch s e new = record s { epochs = λ f. cond (f == e) new (s.epochs f) }

abbrev pub current : Store → Epoch
current s = s.epochs s.epoch

abbrev pub longer : Store → List Event → Store
longer s events = with_epoch s s.epoch (record (current s) {
  log = (current s).log ++ events;
  lengths = (current s).lengths ++ length ((current s).log ++ events) ∷ [];
})

abbrev pub new_epoch : Setup → (ℕ → ℕ) → Epoch
new_epoch setup number = record { setup = setup; number = number; log = []; lengths = 0 ∷ [] }

abbrev pub rolled : Store → Setup → (ℕ → ℕ) → Store
rolled s setup number = record (with_epoch s (s.epoch + 1) (new_epoch setup number)) { epoch = s.epoch + 1 }

abbrev pub learns : Store → (i n e offset : ℕ) → Store
learns s i n e offset = with_session s i n (record (s.sessions i n) { epoch = e; learned = offset })

abbrev pub promises : Store → ℕ → ℕ → Promised → Store
promises s i n promised =
    with_session s i n (record (s.sessions i n) { promises = (s.sessions i n).promises ++ promised ∷ [] })

abbrev pub begins : Store → ℕ → ℕ → Piece → Store
begins s i n piece = with_session (record s { begun = record { name = i; session = n; piece = piece } ∷ s.begun }) i n
    (record (s.sessions i n) { work = (s.sessions i n).work ++ piece ∷ [] })

abbrev pub stops : Store → ℕ → ℕ → List Piece → Store
stops s i n left = with_session s i n (record (s.sessions i n) { work = left })

-- a promise that keeps nothing
abbrev pub nothing_in : ℕ → ℕ → Promised
nothing_in e offset = record { epoch = e; offset = offset; kept = [] }

-- this session holds the lease of name i
abbrev pub IsLive : Store → ℕ → ℕ → Type 0
IsLive s i n = (promised : Promised) × (s.live i ≡ Some (record { session = n; promised = promised }))

-- this session has made this promise, now or before
abbrev pub HasPromised : Store → ℕ → ℕ → Promised → Type 0
HasPromised s i n promised = Contains (s.sessions i n).promises promised

-- this session, live or not, works on that
abbrev pub HasWork : Store → ℕ → ℕ → Piece → Type 0
HasWork s i n piece = Contains (s.sessions i n).work piece

-- the promise's offset is before the plan
abbrev pub IsBefore : Promised → Piece → Type 0
IsBefore p x = (p.epoch < x.epoch) ⊎ ((p.epoch ≡ x.epoch) × (p.offset < x.plan.token))

-- what is known of node i by these events: it is Normal, and this is the last plan
pub record IsOwner (setup : Setup) (events : List Event) (i : ℕ) (plan : Planned) : Type 0 where
  pub world : World
  pub learned : RunsTo setup events world
  pub normal : (vector world i).status ≡ Normal
  pub last : IsLastPlan events plan

-- by these events node i is Normal, and the last plan gives it partition k
pub record Owns (setup : Setup) (events : List Event) (i k : ℕ) : Type 0 where
  pub plan : Planned
  pub owner : IsOwner setup events i plan
  pub gives : GivesTo plan.table k i

-- the node that name i has in this epoch owns partition k by these events
abbrev pub OwnsIn : Epoch → List Event → ℕ → ℕ → Type 0
OwnsIn x events i k = Owns x.setup events (x.number i) k

-- ... by the whole log of the current epoch
abbrev pub OwnsNow : Store → ℕ → ℕ → Type 0
OwnsNow s i k = OwnsIn (current s) (current s).log i k

-- different names have different nodes
abbrev pub IsOneToOne : (ℕ → ℕ) → Type 0
IsOneToOne number = (i j : ℕ) → number i ≡ number j → i ≡ j

-- The store's own tests. It accepts nothing else from any process.

-- an append: the current epoch's log ends at this offset; and each holder of the lease of a name that isn't silent is
-- exactly as the writer has seen it, or has promised that offset and keeps nothing. For a silent name nothing is
-- compared. (A lease that was seen may have ended. If the writer names nobody, no holder may keep anything.)
abbrev pub AcceptsAppend : Store → ℕ → ℕ → (ℕ → Bool) → (ℕ → Option Lease) → Type 0
AcceptsAppend s e offset silent seen = (e ≡ s.epoch) × (offset ≡ length (current s).log)
    × ((i : ℕ) (here : Lease) → s.live i ≡ Some here → silent i ≡ false
    → (seen i ≡ Some here) ⊎ (here.promised ≡ nothing_in e offset))

-- a roll-over: the current epoch's log ends at this offset; and each holder of the lease of a name that isn't silent
-- has promised that offset and keeps nothing
abbrev pub AcceptsRollOver : Store → ℕ → ℕ → (ℕ → Bool) → Type 0
AcceptsRollOver s e offset silent = (e ≡ s.epoch) × (offset ≡ length (current s).log)
    × ((i : ℕ) (here : Lease) → s.live i ≡ Some here → silent i ≡ false → here.promised ≡ nothing_in e offset)

-- a new lease: nobody holds the lease of the name, and the current epoch's log ends at this offset
abbrev pub AcceptsAcquire : Store → ℕ → ℕ → ℕ → Type 0
AcceptsAcquire s i e offset = (s.live i ≡ None) × (e ≡ s.epoch) × (offset ≡ length (current s).log)

-- a promise that is reported to the store: the session is live
abbrev pub AcceptsYield : Store → ℕ → ℕ → Type 0
AcceptsYield s i n = IsLive s i n

-- an answer to a snapshot: the epoch has started, and its log once ended at this offset
abbrev pub TellsLength : Store → ℕ → ℕ → Type 0
TellsLength s e offset = (e ≤ s.epoch) × Contains (s.epochs e).lengths offset

-- The rules of a member. The law assumes that all processes keep these, and nothing else about what they do.

-- it appends only what is lawful after the whole log; only if each silent name owns after the append all that it owned
-- before; and only if all others that it has seen have promised the end of the log, and own after the append all that
-- they keep
pub record MayAppend (s : Store) (e offset : ℕ) (silent : ℕ → Bool) (seen : ℕ → Option Lease)
    (events : List Event) : Type 0 where
  pub lawful : CanRun (current s).setup ((current s).log ++ events)
  pub whole : (i k : ℕ) → silent i ≡ true → OwnsNow s i k → OwnsIn (current s) ((current s).log ++ events) i k
  pub idle : (i : ℕ) (here : Lease) → silent i ≡ false → seen i ≡ Some here
      → (here.promised.epoch ≡ e) × (here.promised.offset ≡ offset)
  pub kept : (i k : ℕ) (here : Lease) → silent i ≡ false → seen i ≡ Some here → Contains here.promised.kept k
      → OwnsIn (current s) ((current s).log ++ events) i k

-- it rolls the epoch over only if each silent name owns nothing, and different names have different nodes in the next
-- epoch
abbrev pub MayRollOver : Store → (ℕ → Bool) → (ℕ → ℕ) → Type 0
MayRollOver s silent number = ((i k : ℕ) → silent i ≡ true → OwnsNow s i k → ⊥) × IsOneToOne number

-- it acquires a lease only for a session that has already promised, for that offset, to keep nothing
abbrev pub MayAcquire : Store → ℕ → ℕ → ℕ → ℕ → Type 0
MayAcquire s i n e offset = HasPromised s i n (nothing_in e offset)

-- it reports to the store only what the session has already promised
abbrev pub MayYield : Store → ℕ → ℕ → Promised → Type 0
MayYield s i n promised = HasPromised s i n promised

-- a session forgets neither an epoch nor what it has learned of it
abbrev pub MayLearn : Store → ℕ → ℕ → ℕ → ℕ → Type 0
MayLearn s i n e offset =
    ((s.sessions i n).epoch < e) ⊎ (((s.sessions i n).epoch ≡ e) × ((s.sessions i n).learned ≤ offset))

-- what it promises to keep includes all that it works on, in whatever epoch
abbrev pub MayPromise : Store → ℕ → ℕ → Promised → Type 0
MayPromise s i n promised = (x : Piece) → HasWork s i n x → Contains promised.kept x.partition

-- it starts to work on a partition by a plan only while the session is live, only as its owner by what the session has
-- learned, and only if the plan is at or after each offset that the session has ever promised
pub record MayBegin (s : Store) (i n : ℕ) (x : Piece) : Type 0 where
  pub live : IsLive s i n
  pub epoch : x.epoch ≡ (s.sessions i n).epoch
  pub number : x.number ≡ (s.epochs x.epoch).number i
  pub owner : IsOwner (s.epochs x.epoch).setup (take (s.sessions i n).learned (s.epochs x.epoch).log) x.number x.plan
  pub gives : GivesTo x.plan.table x.partition x.number
  pub behind : (promised : Promised) → HasPromised s i n promised → IsBefore promised x

-- after a stop it works on nothing on which it didn't work before
abbrev pub MayStop : Store → ℕ → ℕ → List Piece → Type 0
MayStop s i n left = (x : Piece) → Contains left x → HasWork s i n x

-- this act may be done in the store s, and leads to the store s'
abbrev pub Does : Store → Act → Store → Type 0
Does s (Append e offset silent seen events) s' =
    AcceptsAppend s e offset silent seen × MayAppend s e offset silent seen events × (s' ≡ longer s events)
Does s (RollOver e offset silent setup number) s' =
    AcceptsRollOver s e offset silent × MayRollOver s silent number × (s' ≡ rolled s setup number)
Does s (Acquire i n e offset) s' = AcceptsAcquire s i e offset × MayAcquire s i n e offset
    × (s' ≡ with_lease s i (Some (record { session = n; promised = nothing_in e offset })))
Does s (Yield i n promised) s' = AcceptsYield s i n × MayYield s i n promised
    × (s' ≡ with_lease s i (Some (record { session = n; promised = promised })))
Does s (End i) s' = s' ≡ with_lease s i None
Does s (Learn i n e offset) s' = TellsLength s e offset × MayLearn s i n e offset × (s' ≡ learns s i n e offset)
Does s (Promise i n promised) s' = MayPromise s i n promised × (s' ≡ promises s i n promised)
Does s (Begin i n x) s' = MayBegin s i n x × (s' ≡ begins s i n x)
Does s (Stop i n left) s' = MayStop s i n left × (s' ≡ stops s i n left)

-- these acts, done in this order, lead from s to s'
abbrev pub Become : Store → List Act → Store → Type 0
Become s [] s' = s' ≡ s
Become s (act ∷ acts) s' = (mid : Store) × Does s act mid × Become mid acts s'

-- the first epoch has this setup, these nodes and an empty log; nobody holds a lease, and no session has learned or
-- promised anything
abbrev pub first_store : Setup → (ℕ → ℕ) → Store
first_store setup number = record {
  epoch = 0;
  epochs = λ e. new_epoch setup number;
  live = λ i. None;
  sessions = λ i n. record { epoch = 0; learned = 0; promises = []; work = [] };
  begun = [];
}

-- these acts lead from a first store, in which different names have different nodes, to s
pub record IsReached (acts : List Act) (s : Store) : Type 0 where
  pub setup : Setup
  pub number : ℕ → ℕ
  pub one : IsOneToOne number
  pub become : Become (first_store setup number) acts s

-- What the law says.

-- this session holds the lease of name i, and works on that
pub record IsAtWork (s : Store) (i n : ℕ) (x : Piece) : Type 0 where
  pub live : IsLive s i n
  pub work : HasWork s i n x

-- the session has promised, for an offset after the plan, to keep the partition
pub record HasKept (session : Session) (x : Piece) : Type 0 where
  pub promised : Promised
  pub made : Contains session.promises promised
  pub behind : (x.epoch < promised.epoch) ⊎ ((x.epoch ≡ promised.epoch) × (x.plan.token ≤ promised.offset))
  pub kept : Contains promised.kept x.partition

-- the session has promised nothing for an offset after the plan; and by the current log its name owns all that the plan
-- gives its node
pub record IsLeft (s : Store) (i : ℕ) (session : Session) (x : Piece) : Type 0 where
  pub since : (promised : Promised) → Contains session.promises promised → IsBefore promised x
  pub whole : (k : ℕ) → GivesTo x.plan.table k x.number → OwnsNow s i k

-- the token is lower: an older epoch's, or lower in one epoch
abbrev pub IsLower : Piece → Piece → Type 0
IsLower x y = (x.epoch < y.epoch) ⊎ ((x.epoch ≡ y.epoch) × (x.plan.token < y.plan.token))

-- the token is no higher
abbrev pub IsNoHigher : Piece → Piece → Type 0
IsNoHigher x y = (x.epoch < y.epoch) ⊎ ((x.epoch ≡ y.epoch) × (x.plan.token ≤ y.plan.token))

-- it is the same session of the same name; or its lease is over, and the other one has a higher token
abbrev pub IsSameOrOver : Store → (i n : ℕ) → Piece → (j m : ℕ) → Piece → Type 0
IsSameOrOver s i n old j m new = ((i ≡ j) × (n ≡ m)) ⊎ ((IsLive s i n → ⊥) × IsLower old new)

-- what holds for two sessions that started to work in one epoch, one after the other. The later token is no lower if
-- both started on the same partition (`rises`), if their plans give both nodes the same partition (`parts`), or if
-- their name is the same (`ages`). If the tokens are equal, the same name has the same session (`name`), and the same
-- partition has the same name and session (`begun`, `partition`)
pub record IsApartIn (later earlier : Begun) : Type 0 where
  pub rises : earlier.piece.partition ≡ later.piece.partition → earlier.piece.plan.token ≤ later.piece.plan.token
  pub parts : (k : ℕ) → GivesTo earlier.piece.plan.table k earlier.piece.number
      → GivesTo later.piece.plan.table k later.piece.number
      → earlier.piece.plan.token ≤ later.piece.plan.token
  pub ages : earlier.name ≡ later.name → earlier.piece.plan.token ≤ later.piece.plan.token
  pub name : earlier.piece.plan.token ≡ later.piece.plan.token → earlier.name ≡ later.name
      → earlier.session ≡ later.session
  pub begun : earlier.piece.plan.token ≡ later.piece.plan.token → earlier.piece.partition ≡ later.piece.partition
      → (earlier.name ≡ later.name) × (earlier.session ≡ later.session)
  pub partition : (k : ℕ) → earlier.piece.plan.token ≡ later.piece.plan.token
      → GivesTo earlier.piece.plan.table k earlier.piece.number → GivesTo later.piece.plan.table k later.piece.number
      → (earlier.name ≡ later.name) × (earlier.session ≡ later.session)

-- the earlier one started in an older epoch; or in the same one, and they are apart there
abbrev pub IsApart : Begun → Begun → Type 0
IsApart later earlier =
    (earlier.piece.epoch < later.piece.epoch) ⊎ ((earlier.piece.epoch ≡ later.piece.epoch) × IsApartIn later earlier)

-- that holds for each session that started to work and all that started before it
abbrev pub AreApart : List Begun → Type 0
AreApart [] = Unit {0}
AreApart (later ∷ begun) = AllByRecursion (IsApart later) begun × AreApart begun

-- ... and so does this, over all partitions and names: the later token is no lower
abbrev pub IsBehind : Begun → Begun → Type 0
IsBehind later earlier = IsNoHigher earlier.piece later.piece

abbrev pub AllRise : List Begun → Type 0
AllRise [] = Unit {0}
AllRise (later ∷ begun) = AllByRecursion (IsBehind later) begun × AllRise begun

-- Everybody is asked: no append has ever called a name silent.

abbrev pub NoneSilent : (ℕ → Bool) → Type 0
NoneSilent silent = (i : ℕ) → silent i ≡ false

abbrev pub AsksAll : Act → Type 0
AsksAll (Append e offset silent seen events) = NoneSilent silent
AsksAll act = Unit {0}

abbrev pub AllAsked : List Act → Type 0
AllAsked [] = Unit {0}
AllAsked (act ∷ acts) = AsksAll act × AllAsked acts

abbrev pub none_silent : ℕ → Bool
none_silent i = false

-- the session has learned the whole log of the current epoch, and this is a piece by its last plan
pub record IsUpToDate (s : Store) (session : Session) (x : Piece) : Type 0 where
  pub now : x.epoch ≡ s.epoch
  pub epoch : session.epoch ≡ s.epoch
  pub learned : session.learned ≡ length (current s).log
  pub last : IsLastPlan (current s).log x.plan

-- Eager: no session has ever promised to keep anything.

abbrev pub KeepsNothing : Store → Type 0
KeepsNothing s = (i n : ℕ) (promised : Promised) → HasPromised s i n promised → promised.kept ≡ []

-- a writer that names nobody
abbrev pub nobody : ℕ → Option Lease
nobody i = None

-- all holders of leases have promised this offset, and keep nothing
abbrev pub AllIdle : Store → ℕ → ℕ → Type 0
AllIdle s e offset = (i : ℕ) (here : Lease) → s.live i ≡ Some here → here.promised ≡ nothing_in e offset

-- the same epoch is current, with the same log
pub record IsUnchanged (s now : Store) : Type 0 where
  pub epoch : now.epoch ≡ s.epoch
  pub log : (current now).log ≡ (current s).log
