-- A timed run: a run of bully_run in which each happening has its moment of true time, and processes and the store have
-- clocks. The premise of a run about leases (BeginsWhileSure) isn't one here. In its place there are premises about
-- clocks (IsSteady), about what the store does (EndsNoSooner), about answers (IsTrueAnswer) and snapshots (ShowsAsked),
-- and about processes that have ended (HasNoWork).
use Rattle.std.specs.Prelude.{◌≡◌, ◌==◌, ◌<◌, ◌≤◌, ◌*◌, ◌+◌, ◌-◌, ◌^◌, ◌++◌, ◌⊎◌, ℕ, Bool, true, false, List, [], ◌∷◌}
use Rattle.std.specs.Prelude.{Contains, Some, cond}
use Rattle.std.specs.List.{AllByRecursion}
use Rattle.bully_base.specs.Setup.{Setup}
use Rattle.bully_member.specs.Member.{MemberState}
use Rattle.bully_member.specs.Times.{sure_for}
use Rattle.bully_member.specs.declared.values.Asked.{Asked}
use Rattle.bully_member.specs.declared.values.Lease.{Lease}
use Rattle.bully_member.specs.declared.values.SessionId.{SessionId}
use Rattle.bully_member.specs.declared.values.Step.{Step}
use Rattle.bully_member.specs.declared.values.StoreAnswer.{StoreAnswer}
use Rattle.bully_run.specs.Calls.{Answered, AsksFor, Call, GoesNext, SnapshotRead, session_now}
use Rattle.bully_run.specs.Run.{Deed, Done, Ends, Expires, Goes, Happening, Happens, MayDo, MayStart, Process, Run}
use Rattle.bully_run.specs.Run.{SentAcquire, Starts, Told, first_run, id_of, sent_by, session_by, store_by}
use Rattle.bully_run.specs.Run.{with_member}
use Rattle.bully_work.specs.Store.{HasWork, IsLive, IsOneToOne, Piece, Store}

-- Clocks.

-- What the clock of each process shows at a moment of true time; what each clock shows by which the store ends leases,
-- which is its own, or that of each observer; and the ttl of each process.
pub record Clocks : Type 0 where
  pub own : (process moment : ℕ) → ℕ
  pub ender : (clock moment : ℕ) → ℕ
  pub ttl : (process : ℕ) → ℕ

-- a clock never goes back
abbrev pub NeverBack : (ℕ → ℕ) → Type 0
NeverBack clock = (s t : ℕ) → s ≤ t → clock s ≤ clock t

-- while a clock of the store counts a ttl of process p, that process's own counts at least four fifths of a ttl, and
-- `late` more. (The margin of the rules is no part of this, so rules without one aren't proved.)
abbrev pub KeepsUp : Clocks → (p late : ℕ) → Type 0
KeepsUp C p late = (o s t : ℕ) → s ≤ t → C.ttl p ≤ C.ender o t - C.ender o s
    → 4 * C.ttl p + 5 * late ≤ 5 * (C.own p t - C.own p s)

-- the premise about clocks
pub record IsSteady (C : Clocks) (p late : ℕ) : Type 0 where
  pub onward : NeverBack (C.own p)
  pub keeps : KeepsUp C p late

-- Clocks that run at nearly the rate of true time.

-- of any span the clock counts at most one nth too much
abbrev pub IsNoFaster : (n : ℕ) → (ℕ → ℕ) → Type 0
IsNoFaster n clock = (s t : ℕ) → s ≤ t → n * (clock t - clock s) ≤ (n + 1) * (t - s)

-- ... and one nth too little
abbrev pub IsNoSlower : (n : ℕ) → (ℕ → ℕ) → Type 0
IsNoSlower n clock = (s t : ℕ) → s ≤ t → (n - 1) * (t - s) ≤ n * (clock t - clock s)

-- Timed runs.

-- the store has done an acquire of the lease of a name for a session, or a renewal, at this moment
pub record Grant : Type 0 where
  pub name : ℕ
  pub session : ℕ
  pub at : ℕ

-- a run up to now; when each process last asked the store for something; which processes have ended; and which acquires
-- and renewals were done
pub record TimedRun : Type 0 where
  pub run : Run
  pub now : ℕ
  pub asked : ℕ → ℕ
  pub gone : ℕ → Bool
  pub grants : List Grant

-- something of a run happens at a moment; or the store does a renewal then; or a process ends: its member goes on no
-- more
pub data Timed : Type 0 where
  At : (moment : ℕ) (happening : Happening) → Timed
  Renews : (moment name session : ℕ) → Timed
  Quits : (moment process : ℕ) → Timed

-- without times. (A renewal keeps what there is.)
abbrev pub untimed : List Timed → List Happening
untimed [] = []
untimed (At t h ∷ timed) = h ∷ untimed timed
untimed (Renews t i n ∷ timed) = untimed timed
untimed (Quits t p ∷ timed) = untimed timed

-- What is assumed of what happens.

-- the driver may do the step so: as MayDo of bully_run has it, without BeginsWhileSure
abbrev pub MayDoNow : Store → ℕ → MemberState → (after : MemberState) → (now : ℕ) → Step → Deed → Type 0
MayDoNow s i m after now (Step.Begin token) d = AllByRecursion (MayStart m after d.plan) d.begun
MayDoNow s i m after now other d = MayDo s i m after now other d

-- if the answer to an acquire or a renewal is that it is done, the store has done it for that session, and did so after
-- this request. (Any other answer may be false.)
abbrev pub IsTrueAnswer : TimedRun → (p : ℕ) → Process → StoreAnswer → Type 0
IsTrueAnswer T p q StoreAnswer.Done = (asked : Asked) (session : SessionId) → q.member.asked ≡ Some asked
    → AsksFor session (Step.Ask asked.request)
    → (g : Grant) × Contains T.grants g × (g.name ≡ q.name) × (g.session ≡ id_of session) × (T.asked p ≤ g.at)
IsTrueAnswer T p q answer = Unit {0}

-- of its own process a lease is of a session that this has asked for: the last one, or one before
abbrev pub IsAskedLease : (last : SessionId) → Lease → Type 0
IsAskedLease last lease = lease.session.process ≡ last.process → lease.session.number ≤ last.number

-- of the process whose last session this is, these leases show only sessions that it has asked for
abbrev pub ShowsAsked : (last : SessionId) → List Lease → Type 0
ShowsAsked last leases = AllByRecursion (IsAskedLease last) leases

-- a member may be told this
abbrev pub IsTrueCall : TimedRun → (p : ℕ) → Call → Type 0
IsTrueCall T p (Answered now answer) = (q : Process) → T.run.processes p ≡ Some q → IsTrueAnswer T p q answer
IsTrueCall T p (SnapshotRead now epoch leases has_unknown has_request) =
    (q : Process) → T.run.processes p ≡ Some q → ShowsAsked (session_now q.member) leases
IsTrueCall T p other = Unit {0}

-- a clock of the store has counted a ttl of the process of this session, from a moment on that isn't before any of its
-- grants
pub record IsOver (C : Clocks) (grants : List Grant) (i n to : ℕ) : Type 0 where
  pub clock : ℕ
  pub since : ℕ
  pub after : (g : Grant) → Contains grants g → g.name ≡ i → g.session ≡ n → g.at ≤ since
  pub before : since ≤ to
  pub ttl : (p k : ℕ) → k < 2 ^ 64 → n ≡ id_of (session_by p k) → C.ttl p ≤ C.ender clock to - C.ender clock since

-- this is a session of a process that has ended
pub record IsGone (gone : ℕ → Bool) (n : ℕ) : Type 0 where
  pub process : ℕ
  pub number : ℕ
  pub low : number < 2 ^ 64
  pub own : n ≡ id_of (session_by process number)
  pub over : gone process ≡ true

-- the store ends a lease that its member doesn't release no sooner than a ttl, by a clock of its own, after it did the
-- acquire, or the last renewal; or for a process that has ended, as a watchdog releases it
abbrev pub EndsNoSooner : Clocks → TimedRun → (i to : ℕ) → Type 0
EndsNoSooner C T i to = (n : ℕ) → IsLive T.run.store i n → IsOver C T.grants i n to ⊎ IsGone T.gone n

-- What happens.

-- a member goes on by a step: as in a run, but for the premise about leases
abbrev pub GoesNow : Run → (p now : ℕ) → Step → Deed → Run → Type 0
GoesNow R p now step deed R' = (q : Process) × (after : MemberState) × (R.processes p ≡ Some q)
    × GoesNext q.member now step after × MayDoNow R.store q.name q.member after now step deed
    × (R' ≡ with_member R p q.name after (store_by R.store q.name q.member step deed)
    (sent_by q.name q.member step deed))

-- a process reads its clock, and asks for something, or begins, at that moment
abbrev pub HappensAt : Clocks → TimedRun → (t : ℕ) → Happening → Run → Type 0
HappensAt C T t (Starts p i header terms ttl) R' =
    Happens T.run (Starts p i header terms ttl) R' × (ttl ≡ C.ttl p)
HappensAt C T t (Goes p now step deed) R' =
    GoesNow T.run p now step deed R' × (now ≡ C.own p t) × (T.gone p ≡ false)
HappensAt C T t (Told p call) R' = Happens T.run (Told p call) R' × IsTrueCall T p call
HappensAt C T t (Ends p number left) R' = Happens T.run (Ends p number left) R'
HappensAt C T t (Done sent) R' = Happens T.run (Done sent) R'
HappensAt C T t (Expires i) R' = Happens T.run (Expires i) R' × EndsNoSooner C T i t

-- when each process asked for something last, and what was granted
abbrev pub asked_at : (ℕ → ℕ) → (t : ℕ) → Happening → (ℕ → ℕ)
asked_at asked t (Goes p now (Step.Ask request) deed) r = cond (r == p) t (asked r)
asked_at asked t other r = asked r

abbrev pub granted_at : List Grant → (t : ℕ) → Happening → List Grant
granted_at grants t (Done (SentAcquire i n e offset)) = grants ++ record { name = i; session = n; at = t } ∷ []
granted_at grants t other = grants

-- nothing is left of the work of a process
abbrev pub HasNoWork : Run → ℕ → Type 0
HasNoWork R p = (q : Process) (k : ℕ) (x : Piece) → R.processes p ≡ Some q → k ≤ q.member.tries
    → HasWork R.store q.name (id_of (session_by p k)) x → ⊥

-- the timed run T may go on so, and then is T'
abbrev pub GoesOnBy : Clocks → TimedRun → Timed → TimedRun → Type 0
GoesOnBy C T (At t h) T' = (T.now ≤ t) × (R' : Run) × HappensAt C T t h R'
    × (T' ≡ record {
      run = R';
      now = t;
      asked = asked_at T.asked t h;
      gone = T.gone;
      grants = granted_at T.grants t h;
    })
GoesOnBy C T (Renews t i n) T' = (T.now ≤ t) × IsLive T.run.store i n
    × (T' ≡ record T { now = t; grants = T.grants ++ record { name = i; session = n; at = t } ∷ [] })
GoesOnBy C T (Quits t p) T' =
    (T.now ≤ t) × HasNoWork T.run p × (T' ≡ record T { now = t; gone = λ r. cond (r == p) true (T.gone r) })

abbrev pub TimedBy : Clocks → TimedRun → List Timed → TimedRun → Type 0
TimedBy C T [] T' = T' ≡ T
TimedBy C T (x ∷ timed) T' = (mid : TimedRun) × GoesOnBy C T x mid × TimedBy C mid timed T'

abbrev pub first_timed : Setup → (ℕ → ℕ) → TimedRun
first_timed setup number =
    record { run = first_run setup number; now = 0; asked = λ p. 0; gone = λ p. false; grants = [] }

-- a timed run from its start, in which the clock of each process is steady
pub record HasTimedRun (C : Clocks) (timed : List Timed) (T : TimedRun) : Type 0 where
  pub setup : Setup
  pub number : ℕ → ℕ
  pub one : IsOneToOne number
  pub steady : (p : ℕ) → IsSteady C p 0
  pub by : TimedBy C (first_timed setup number) timed T

-- What the law says.

-- the lease of this session of process p counts from this time: the clock of the process showed it no later than the
-- store did an acquire of the lease, or a renewal
pub record IsCounted (C : Clocks) (T : TimedRun) (p i : ℕ) (session : SessionId) (since : ℕ) : Type 0 where
  pub grant : Grant
  pub moment : ℕ
  pub done : Contains T.grants grant
  pub name : grant.name ≡ i
  pub own : grant.session ≡ id_of session
  pub before : moment ≤ grant.at
  pub shows : since ≡ C.own p moment

-- at this moment process p works on that by its last session, and by its own clock the lease of that session was sure no
-- longer than `late` ago. (A process that has ended has no work.)
pub record WorksInTime (C : Clocks) (T : TimedRun) (p late t : ℕ) (x : Piece) : Type 0 where
  pub process : Process
  pub there : T.run.processes p ≡ Some process
  pub alive : T.gone p ≡ false
  pub work : HasWork T.run.store process.name (id_of (session_now process.member)) x
  pub since : ℕ
  pub counts : IsCounted C T p process.name (session_now process.member) since
  pub within : C.own p t - since < sure_for (C.ttl p) + late
