-- One member's progress: what it still has to do by itself until it waits or changes the log, and its turns.
use Rattle.std.specs.Prelude.{◌≡◌, ◌≢◌, ◌⊎◌, ◌≤◌, ◌+◌, ◌==◌, ◌&&◌, ◌||◌, not, if◌then◌else◌, ℕ, Bool, true, false, List}
use Rattle.std.specs.Prelude.{[], ◌∷◌}
use Rattle.std.specs.Prelude.{Contains, Option, Some, None, Result, length, min, nat_lt}
use Rattle.std.specs.List.{list_any}
use Rattle.bully_agree.specs.Fencing.{Planned}
use Rattle.bully_member.specs.Activities.{any_stopping}
use Rattle.bully_member.specs.Due.{admission_wait, is_admitted_since, is_newcomer, token_now, until_ready}
use Rattle.bully_member.specs.Member.{MemberState, above, all_ready, has_promised, is_affected}
use Rattle.bully_member.specs.Member.{is_closing, offset_of, replica_of}
use Rattle.bully_member.specs.Times.{pause_left, renewal_left, turn_left}
use Rattle.bully_member.specs.Told.{SeesIfFound, same_bool, same_leases}
use Rattle.bully_member.specs.declared.values.Lease.{Lease}
use Rattle.bully_member.specs.declared.values.Reason.{Reason}
use Rattle.bully_member.specs.declared.values.Request.{Request}
use Rattle.bully_member.specs.declared.values.SessionId.{SessionId}
use Rattle.bully_member.specs.declared.values.SessionState.{SessionState}
use Rattle.bully_member.specs.declared.values.Sight.{Sight}
use Rattle.bully_member.specs.declared.values.Step.{Step}
use Rattle.bully_member.specs.declared.values.StoreAnswer.{StoreAnswer}
use Rattle.bully_member.specs.declared.values.Until.{Until}
use Rattle.bully_rebalance.specs.Owning.{owned_by}
use Rattle.bully_rebalance.specs.declared.holding.Owned.{Owned}
use Rattle.bully_replica.specs.Replica.{IsReplica}
use Rattle.bully_replica.specs.declared.row_replica.LearnFault.{LearnFault}
use Rattle.bully_rows.specs.Headers.{Record}
use Rattle.bully_run.specs.Calls.{Answered, Call, GoesNext, GoesOnLearning, SnapshotRead, Stopped, StoppedOn, Takes}

-- The premises on a member at the moment of its turn. It has its lease, whose renewal isn't due. It isn't ending, and its
-- epoch isn't over. Its last request was answered, and no pause is under way. All work that it was asked to stop has
-- ended. Since its last snapshot no lease was admitted. The last two are what the type of a member keeps: a log leads to
-- its replica, and there is an activity for each partition of the last plan's table.
pub record IsCalm (m : MemberState) (now : ℕ) : Type 0 where
  pub session : SessionId
  pub since : ℕ
  pub live : m.session ≡ SessionState.Live session since
  pub early : (renewal_left m.session m.ttl now == 0) ≡ false
  pub going : m.ending ≡ None
  pub within : m.is_past ≡ false
  pub answered : m.asked ≡ None
  pub rested : pause_left m.paused m.ttl now ≡ 0
  pub free : any_stopping m.works ≡ false
  pub quiet : list_any (is_admitted_since m now) m.leases ≡ false
  pub learned : IsReplica (replica_of m)
  pub sized : (p : Planned) → (replica_of m).last ≡ Some p → length p.table ≤ length m.works

-- How many turns it has still to do at most, before it waits or changes the log.

abbrev pub unless : Bool → ℕ
unless true = 0
unless false = 1

-- to begin: its node owns something, and the member doesn't work on exactly that by its token
abbrev pub to_begin : MemberState → Sight → Option ℕ → ℕ
to_begin m s None = 0
to_begin m s (Some token) = unless (s.may_go_on && (s.has_all && (token == m.token)))

-- to promise: the coming change affects it, and it hasn't promised the end of the log with exactly what it works on, or
-- still has something to stop. A newcomer waits first
abbrev pub to_promise : MemberState → Sight → ℕ
to_promise m s = unless (is_newcomer m || (not (is_affected m m.terms.node) || (s.may_go_on && has_promised m)))

-- ... once it has read a snapshot
abbrev pub to_do_seen : MemberState → Sight → ℕ
to_do_seen m s = if s.is_stable then to_begin m s (token_now m) else to_promise m s

-- to read a snapshot, to stop what that shows, and one of these
abbrev pub to_do_then : MemberState → Sight → ℕ
to_do_then m s = if m.needs_snapshot then 3 else to_do_seen m s

-- ... and to stop what it may not go on with
abbrev pub to_do : MemberState → Sight → ℕ
to_do m s = unless s.may_go_on + to_do_then m s

-- the steps that do this
abbrev pub is_task : Step → Bool
is_task Step.Stop = true
is_task (Step.Begin token) = true
is_task (Step.Ask Request.Snapshot) = true
is_task (Step.Ask (Request.Promise session offset)) = true
is_task _ = false

-- the steps that change the log
abbrev pub changes_log : Step → Bool
changes_log (Step.Ask (Request.Append offset)) = true
changes_log (Step.Ask (Request.RollOver offset)) = true
changes_log _ = false

-- the change of the log that is due: to roll the epoch over, or to rebalance the group
abbrev pub change_of : MemberState → Step
change_of m = if is_closing m then Step.Ask (Request.RollOver (offset_of m)) else Step.Ask (Request.Append (offset_of m))

-- what it does once nothing is left. In a stable group it waits. In another one a newcomer waits to be admitted; others
-- wait for their turn, and for all to be ready, and then change the log
abbrev pub step_at_rest : MemberState → (now : ℕ) → (is_stable : Bool) → Step
step_at_rest m now true = Step.Wait (admission_wait m now) Until.AnyIdle Reason.Stable
step_at_rest m now false =
    let turn = turn_left (above m) m.ttl now m.last_change.at in
    if is_newcomer m then Step.Wait (admission_wait m now) Until.News Reason.Admission else
    if nat_lt 0 turn then Step.Wait (min (renewal_left m.session m.ttl now) turn) Until.News Reason.Turn else
    if not (all_ready m) then Step.Wait (renewal_left m.session m.ttl now) (until_ready m) Reason.Others else
    change_of m

-- A turn: the member's next step, and then what the driver reports of it.

-- a report that work has ended: all of it, or that on a partition
abbrev pub IsEnd : Call → Type 0
IsEnd Stopped = Unit {0}
IsEnd (StoppedOn k) = Unit {0}
IsEnd other = ⊥

abbrev pub AreEnds : MemberState → List Call → MemberState → Type 0
AreEnds m [] after = after ≡ m
AreEnds m (call ∷ calls) after = (mid : MemberState) × IsEnd call × Takes m call mid × AreEnds mid calls after

-- a snapshot of its epoch was read: it has learned these rows, if any, and was then told of these leases and requests
pub record HasLooked (m : MemberState) (at : ℕ) (after : MemberState) : Type 0 where
  pub records : List Record
  pub taken : Result (Unit {0}) LearnFault
  pub behind : MemberState
  pub learns : GoesOnLearning m records taken behind
  pub leases : List Lease
  pub has_unknown : Bool
  pub has_request : Bool
  pub reads : Takes behind (SnapshotRead at m.terms.epoch leases has_unknown has_request) after
  pub foresees : SeesIfFound after

-- to a member that has learned all rows of a snapshot, that shows a change: more rows than at the last change before;
-- other leases, or in an eager group other promises; or that other settings are requested, or no more
abbrev pub ShowsChange : (behind : MemberState) → List Lease → (has_request : Bool) → Type 0
ShowsChange behind leases has_request =
    (offset_of behind ≢ behind.last_change.offset)
    ⊎ (same_leases behind.terms.is_cooperative behind.leases leases ≡ false)
    ⊎ (same_bool behind.has_request has_request ≡ false)

-- requests are done, and what was to be stopped ends
abbrev pub IsReported : MemberState → (at : ℕ) → Step → (after : MemberState) → Type 0
IsReported m at (Step.Ask Request.Snapshot) after = HasLooked m at after
IsReported m at (Step.Ask request) after = Takes m (Answered at StoreAnswer.Done) after
IsReported m at Step.Stop after = (calls : List Call) × AreEnds m calls after × (any_stopping after.works ≡ false)
IsReported m at other after = after ≡ m

pub record TakesTurn (m : MemberState) (now at : ℕ) (step : Step) (after : MemberState) : Type 0 where
  pub mid : MemberState
  pub goes : GoesNext m now step mid
  pub reported : IsReported mid at step after

-- when a member takes its turn, and when that is reported
pub record Turn : Type 0 where
  pub now : ℕ
  pub at : ℕ
  pub step : Step

-- by these turns it becomes another one. In each it does something that was left, and was calm before
abbrev pub DoesTasks : MemberState → List Turn → MemberState → Type 0
DoesTasks m [] after = after ≡ m
DoesTasks m (t ∷ turns) after = (mid : MemberState) × IsCalm m t.now × TakesTurn m t.now t.at t.step mid
    × (is_task t.step ≡ true) × DoesTasks mid turns after

-- its node owns this partition, by a plan after all that its session has promised
abbrev pub Owns : MemberState → ℕ → Type 0
Owns m k = (o : Owned) × (owned_by (replica_of m) m.terms.node m.promised ≡ Some o) × Contains o.partitions k
