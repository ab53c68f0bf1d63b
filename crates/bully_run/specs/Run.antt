-- A run: processes whose members' values change by calls, and the store that they share. What a driver does between
-- them has premises, each with a name: IsEpochOf, AreRowsOf, IsWhole, NumbersLast, WritesAsKnown, ClosesAsKnown,
-- BeginsWhileSure, MayStart, HasEnded, HasEndedOn.
use Rattle.std.specs.Prelude.{◌≡◌, ◌==◌, ◌≤◌, ◌*◌, ◌+◌, ◌^◌, ◌++◌, ◌&&◌, ◌||◌, not, ℕ, Bool, true, false, List, [], ◌∷◌}
use Rattle.std.specs.Prelude.{Contains, Option, None, Some, cond, drop, if◌then◌else◌, length, map, nat_le, take}
use Rattle.std.specs.List.{AllByRecursion}
use Rattle.bully_agree.specs.Fencing.{Planned}
use Rattle.bully_base.specs.Setup.{Setup}
use Rattle.bully_calls.specs.declared.event.Event.{Event}
use Rattle.bully_member.specs.Activities.{all_idle, works_at}
use Rattle.bully_member.specs.Asking.{MayBeSilent, Names, promise_of}
use Rattle.bully_member.specs.Learned.{is_following}
use Rattle.bully_member.specs.Member.{MemberState, new_member, offset_of, replica_of}
use Rattle.bully_member.specs.Rebalance.{rebalanced_nodes}
use Rattle.bully_member.specs.Times.{sure}
use Rattle.bully_member.specs.Told.{awaits_snapshot}
use Rattle.bully_member.specs.declared.opening.Terms.{Terms}
use Rattle.bully_member.specs.declared.values.Request.{Request}
use Rattle.bully_member.specs.declared.values.SessionId.{SessionId}
use Rattle.bully_member.specs.declared.values.Step.{Step}
use Rattle.bully_rebalance.specs.Rebalancing.{Rebalances, table_before}
use Rattle.bully_replica.specs.Replica.{IsLogOf}
use Rattle.bully_replica.specs.RowReplica.{row_in}
use Rattle.bully_rows.specs.Headers.{Record}
use Rattle.bully_rows.specs.declared.header.Header.{Header}
use Rattle.bully_rows.specs.declared.trace.Row.{Row}
use Rattle.bully_run.specs.Calls.{Call, Followed, GoesNext, Learn, Next, NumbersLast, SnapshotRead, Stopped, StoppedOn}
use Rattle.bully_run.specs.Calls.{Takes, session_now}
use Rattle.bully_trace.specs.Verdict.{events_of}
use Rattle.bully_work.specs.Store.{AcceptsAcquire, AcceptsAppend, AcceptsRollOver, AcceptsYield, HasWork, IsAtWork}
use Rattle.bully_work.specs.Store.{IsLive, IsOneToOne, Lease as Held, MayStop, Piece, Promised, Store, begins}
use Rattle.bully_work.specs.Store.{first_store, learns, longer, nothing_in, promises, rolled, stops, with_lease}
use Rattle.bully_work.specs.Working.{GivesTo}

-- the number of a session in the model of a store. Different sessions have different ones: a process has 2^64
abbrev pub id_of : SessionId → ℕ
id_of session = session.process * 2 ^ 64 + session.number

-- a process: for which name it acts, and its member
pub record Process : Type 0 where
  pub name : ℕ
  pub member : MemberState

-- What a process has sent to the store. The store may do it at any time, more than once, or never. (A renewal only
-- keeps what there is. A writer is the member as it was when it asked.)
pub data Sent : Type 0 where
  SentAcquire : (name session epoch offset : ℕ) → Sent
  SentRelease : (name session : ℕ) → Sent
  SentPromise : (name session : ℕ) (promised : Promised) → Sent
  SentAppend : (writer : MemberState) (offset : ℕ) (silent : ℕ → Bool) (seen : ℕ → Option Held)
      (events : List Event) → Sent
  SentRollOver : (writer : MemberState) (offset : ℕ) (silent : ℕ → Bool) (setup : Setup) (number : ℕ → ℕ) → Sent

-- the store, with what sessions know and do; the process of each number, if it has started; and what was sent
pub record Run : Type 0 where
  pub store : Store
  pub processes : ℕ → Option Process
  pub sent : List Sent

-- What a driver chooses when it does a step: for an append the silent names, the leases that it names, and the events;
-- for a roll-over the silent names, and the next epoch's setup and names; and by which plan and on which partitions it
-- begins.
pub record Deed : Type 0 where
  pub silent : ℕ → Bool
  pub seen : ℕ → Option Held
  pub events : List Event
  pub setup : Setup
  pub number : ℕ → ℕ
  pub plan : Planned
  pub begun : List ℕ

-- What happens: a process starts; its member goes on by a step, which the driver does; another call is made; work of a
-- session ends, and this is left; the store does what was sent; a lease is over.
pub data Happening : Type 0 where
  Starts : (process name : ℕ) (header : Header) (terms : Terms) (ttl : ℕ) → Happening
  Goes : (process now : ℕ) (step : Step) (deed : Deed) → Happening
  Told : (process : ℕ) (call : Call) → Happening
  Ends : (process number : ℕ) (left : List Piece) → Happening
  Done : (sent : Sent) → Happening
  Expires : (name : ℕ) → Happening

-- The driver's premises.

-- what a member is told of an epoch is the store's: it has started, and this is its setup, and the name's node in it
pub record IsEpochOf (s : Store) (i : ℕ) (header : Header) (terms : Terms) : Type 0 where
  pub started : terms.epoch ≤ s.epoch
  pub setup : header.setup ≡ (s.epochs terms.epoch).setup
  pub number : terms.node ≡ (s.epochs terms.epoch).number i

-- the rows that it is told are the store's: as far as these records are read as rows, their events are the next ones of
-- its epoch's log
abbrev pub AreRowsOf : Store → MemberState → List Record → Type 0
AreRowsOf s m records = (read left : List Record) (rows : List Row) → records ≡ read ++ left
    → map (row_in (replica_of m)) read ≡ map Some rows
    → events_of rows ≡ take (length (events_of rows)) (drop (offset_of m) (s.epochs m.terms.epoch).log)

-- a snapshot is of one moment: before it is reported, the member has learned all rows that the log had then
abbrev pub IsWhole : Store → MemberState → Type 0
IsWhole s m = Contains (s.epochs m.terms.epoch).lengths (offset_of m)

-- an append: the writer names only what the member knows, and sends the events of `Member::rebalance`
pub record WritesAsKnown (s : Store) (m : MemberState) (d : Deed) : Type 0 where
  pub names : Names m (record s { epoch = m.terms.epoch }) d.silent d.seen
  pub rebalances : (log : List Event) → IsLogOf (replica_of m) log → Rebalances (replica_of m).world.setup log
      (table_before (replica_of m).last m.terms.old) (rebalanced_nodes m) d.events

-- a roll-over: it calls silent only whom the change doesn't affect, and names have different nodes in the next epoch
pub record ClosesAsKnown (s : Store) (m : MemberState) (d : Deed) : Type 0 where
  pub spared : (j : ℕ) → d.silent j ≡ true
      → MayBeSilent m m.terms.is_cooperative m.ending ((s.epochs m.terms.epoch).number j)
  pub one : IsOneToOne d.number

-- the premise about time: as long as the lease is sure by the member's clock, the store keeps it
abbrev pub BeginsWhileSure : Store → ℕ → MemberState → (now : ℕ) → Type 0
BeginsWhileSure s i m now = sure m.session m.ttl now ≡ true → IsLive s i (id_of (session_now m))

-- work begins only on what the last plan gives the node, and on what the member then works
pub record MayStart (m : MemberState) (after : MemberState) (plan : Planned) (k : ℕ) : Type 0 where
  pub last : (replica_of m).last ≡ Some plan
  pub gives : GivesTo plan.table k m.terms.node
  pub works : works_at after.works k ≡ true

-- work has ended before that is reported: all of it, or that on a partition
abbrev pub HasEnded : Store → ℕ → MemberState → Type 0
HasEnded s i m = (x : Piece) → HasWork s i (id_of (session_now m)) x → ⊥

abbrev pub HasEndedOn : Store → ℕ → MemberState → ℕ → Type 0
HasEndedOn s i m k = (x : Piece) → HasWork s i (id_of (session_now m)) x → x.partition ≡ k → ⊥

-- What a step is to the store.

-- the driver may do the step so
abbrev pub MayDo : Store → ℕ → MemberState → (after : MemberState) → (now : ℕ) → Step → Deed → Type 0
MayDo s i m after now (Step.Ask (Request.Acquire session offset)) d = NumbersLast m
MayDo s i m after now (Step.Ask (Request.Append offset)) d = WritesAsKnown s m d
MayDo s i m after now (Step.Ask (Request.RollOver offset)) d = ClosesAsKnown s m d
MayDo s i m after now (Step.Begin token) d =
    BeginsWhileSure s i m now × AllByRecursion (MayStart m after d.plan) d.begun
MayDo s i m after now other d = Unit {0}

-- a partition on which the member's node works by a plan
abbrev pub piece_of : MemberState → Planned → ℕ → Piece
piece_of m plan k = record { epoch = m.terms.epoch; number = m.terms.node; plan = plan; partition = k }

abbrev pub begins_all : Store → (i n : ℕ) → MemberState → Planned → List ℕ → Store
begins_all s i n m plan [] = s
begins_all s i n m plan (k ∷ ks) = begins_all (begins s i n (piece_of m plan k)) i n m plan ks

-- what sessions know and do then: a new session has learned what the member has, and promises the offset of its acquire
abbrev pub store_by : Store → ℕ → MemberState → Step → Deed → Store
store_by s i m (Step.Ask (Request.Acquire session offset)) d =
    promises (learns s i (id_of session) m.terms.epoch offset) i (id_of session) (nothing_in m.terms.epoch offset)
store_by s i m (Step.Ask (Request.Promise session offset)) d = promises s i (id_of session) (promise_of m offset)
store_by s i m (Step.Begin token) d = begins_all s i (id_of (session_now m)) m d.plan d.begun
store_by s i m other d = s

-- what is sent
abbrev pub sent_by : ℕ → MemberState → Step → Deed → List Sent
sent_by i m (Step.Ask (Request.Acquire session offset)) d = SentAcquire i (id_of session) m.terms.epoch offset ∷ []
sent_by i m (Step.Ask (Request.Release session)) d = SentRelease i (id_of session) ∷ []
sent_by i m (Step.Ask (Request.Promise session offset)) d = SentPromise i (id_of session) (promise_of m offset) ∷ []
sent_by i m (Step.Ask (Request.Append offset)) d = SentAppend m offset d.silent d.seen d.events ∷ []
sent_by i m (Step.Ask (Request.RollOver offset)) d = SentRollOver m offset d.silent d.setup d.number ∷ []
sent_by i m other d = []

-- What another call is to the store.

-- the driver may report this
abbrev pub MayTell : Store → ℕ → MemberState → Call → (after : MemberState) → Type 0
MayTell s i m (Next now other) after = ⊥
MayTell s i m (Learn records taken) after = AreRowsOf s m records
MayTell s i m (SnapshotRead now epoch leases has_unknown has_request) after =
    awaits_snapshot m.asked ≡ true → epoch ≡ m.terms.epoch → IsWhole s m
MayTell s i m (Followed now header terms) after = IsEpochOf s i header terms
MayTell s i m Stopped after = HasEnded s i m
MayTell s i m (StoppedOn k) after = HasEndedOn s i m k
MayTell s i m other after = Unit {0}

-- whether the member goes on in another epoch
abbrev pub moves : MemberState → Terms → Bool
moves m t = is_following m.asked && not (nat_le t.epoch m.terms.epoch || not (all_idle m.works))

-- whether it takes in a snapshot
abbrev pub takes_in : MemberState → (epoch : ℕ) → Bool
takes_in m epoch = awaits_snapshot m.asked && (epoch == m.terms.epoch)

-- what its session has learned then
abbrev pub store_told : Store → ℕ → MemberState → Call → Store
store_told s i m (SnapshotRead now epoch leases has_unknown has_request) =
    if takes_in m epoch then learns s i (id_of (session_now m)) m.terms.epoch (offset_of m) else s
store_told s i m (Followed now header t) = if moves m t then learns s i (id_of (session_now m)) t.epoch 0 else s
store_told s i m other = s

-- What the store does, by its own tests.

abbrev pub IsDone : Store → Sent → Store → Type 0
IsDone s (SentAcquire i n e offset) s' =
    AcceptsAcquire s i e offset × (s' ≡ with_lease s i (Some (record { session = n; promised = nothing_in e offset })))
IsDone s (SentRelease i n) s' = IsLive s i n × (s' ≡ with_lease s i None)
IsDone s (SentPromise i n promised) s' =
    AcceptsYield s i n × (s' ≡ with_lease s i (Some (record { session = n; promised = promised })))
IsDone s (SentAppend m offset silent seen events) s' =
    AcceptsAppend s m.terms.epoch offset silent seen × (s' ≡ longer s events)
IsDone s (SentRollOver m offset silent setup number) s' =
    AcceptsRollOver s m.terms.epoch offset silent × (s' ≡ rolled s setup number)

-- The run.

abbrev pub with_process : (ℕ → Option Process) → ℕ → Process → (ℕ → Option Process)
with_process processes p q r = cond (r == p) (Some q) (processes r)

-- process p's member is this now
abbrev pub with_member : Run → (p i : ℕ) → MemberState → Store → List Sent → Run
with_member R p i after s more = record {
  store = s;
  processes = with_process R.processes p (record { name = i; member = after });
  sent = R.sent ++ more;
}

abbrev pub session_by : (process number : ℕ) → SessionId
session_by process number = record { process = process; number = number }

-- a process has learned nothing when it starts: the session of number 0, which never has a lease, stands for that
abbrev pub store_started : Store → ℕ → (p : ℕ) → Terms → Store
store_started s i p terms = learns s i (id_of (session_by p 0)) terms.epoch 0

-- the run R may go on so, and then is R'
abbrev pub Happens : Run → Happening → Run → Type 0
Happens R (Starts p i header terms ttl) R' = (R.processes p ≡ None) × IsEpochOf R.store i header terms
    × (R' ≡ with_member R p i (new_member header terms p ttl) (store_started R.store i p terms) [])
Happens R (Goes p now step deed) R' = (q : Process) × (after : MemberState) × (R.processes p ≡ Some q)
    × GoesNext q.member now step after × MayDo R.store q.name q.member after now step deed
    × (R' ≡ with_member R p q.name after (store_by R.store q.name q.member step deed)
    (sent_by q.name q.member step deed))
Happens R (Told p call) R' = (q : Process) × (after : MemberState) × (R.processes p ≡ Some q)
    × Takes q.member call after × MayTell R.store q.name q.member call after
    × (R' ≡ with_member R p q.name after (store_told R.store q.name q.member call) [])
Happens R (Ends p number left) R' = (q : Process) × (R.processes p ≡ Some q) × (number ≤ q.member.tries)
    × MayStop R.store q.name (id_of (session_by p number)) left
    × (R' ≡ with_member R p q.name q.member (stops R.store q.name (id_of (session_by p number)) left) [])
Happens R (Done sent) R' =
    Contains R.sent sent × (s' : Store) × IsDone R.store sent s' × (R' ≡ record R { store = s' })
Happens R (Expires i) R' = R' ≡ record R { store = with_lease R.store i None }

abbrev pub RunsBy : Run → List Happening → Run → Type 0
RunsBy R [] R' = R' ≡ R
RunsBy R (h ∷ happenings) R' = (mid : Run) × Happens R h mid × RunsBy mid happenings R'

-- the first epoch has begun, and no process has started
abbrev pub first_run : Setup → (ℕ → ℕ) → Run
first_run setup number = record { store = first_store setup number; processes = λ p. None; sent = [] }

-- a run from its start
pub record HasRun (happenings : List Happening) (R : Run) : Type 0 where
  pub setup : Setup
  pub number : ℕ → ℕ
  pub one : IsOneToOne number
  pub runs : RunsBy (first_run setup number) happenings R

-- all groups are eager: each member starts, and goes on, in an epoch that is

abbrev pub IsEagerCall : Call → Type 0
IsEagerCall (Followed now header terms) = terms.is_cooperative ≡ false
IsEagerCall other = Unit {0}

abbrev pub IsEager : Happening → Type 0
IsEager (Starts p i header terms ttl) = terms.is_cooperative ≡ false
IsEager (Told p call) = IsEagerCall call
IsEager other = Unit {0}

abbrev pub AllEager : List Happening → Type 0
AllEager [] = Unit {0}
AllEager (h ∷ happenings) = IsEager h × AllEager happenings

-- process p works on that, by a session that has its lease
pub record WorksNow (R : Run) (p : ℕ) (x : Piece) : Type 0 where
  pub process : Process
  pub started : R.processes p ≡ Some process
  pub number : ℕ
  pub asked : number ≤ process.member.tries
  pub works : IsAtWork R.store process.name (id_of (session_by p number)) x
