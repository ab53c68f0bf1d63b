-- Each member of a run has an activity for each partition.
use Rattle.std.proofs.Common.{◌≡◌, ◌&&◌, ◌||◌, ◌==◌, not, ℕ, Bool, true, false, List, [], ◌∷◌, Option, Some, None, if◌then◌else◌, cond, length, nat_le, sym, ap, subst, ◌∙◌}
use Rattle.std.proofs.lemmas.List.{length-replicate}
use Rattle.bully_base.specs.Setup.{Setup}
use Rattle.bully_member.proofs.ActivityLemmas.{changed_sizes}
use Rattle.bully_member.specs.Activities.{all_idle, any_working, begin_at, end_at, ended_at, stop_at}
use Rattle.bully_member.specs.Due.{last_table, noted, table_ahead}
use Rattle.bully_member.specs.Learned.{in_epoch, is_following}
use Rattle.bully_member.specs.Member.{MemberState, admitted_among, lease_of, new_member, replica_of}
use Rattle.bully_member.specs.Told.{acquired_by, answered_by, awaits_snapshot, end_for, found, found_here, own_by, own_by_promise, own_promise, renewed_by, to_pause, when_acquired, when_answered, when_renewed, with_arrivals}
use Rattle.bully_member.specs.declared.opening.Terms.{Terms}
use Rattle.bully_member.specs.declared.values.Activity.{Activity}
use Rattle.bully_member.specs.declared.values.Asked.{Asked}
use Rattle.bully_member.specs.declared.values.Ending.{Ending}
use Rattle.bully_member.specs.declared.values.Lease.{Lease}
use Rattle.bully_member.specs.declared.values.Promise.{Promise}
use Rattle.bully_member.specs.declared.values.Request.{Request}
use Rattle.bully_member.specs.declared.values.SessionId.{SessionId}
use Rattle.bully_member.specs.declared.values.SessionState.{SessionState}
use Rattle.bully_member.specs.declared.values.Step.{Step}
use Rattle.bully_member.specs.declared.values.StoreAnswer.{StoreAnswer}
use Rattle.bully_replica.specs.Replica.{first_replica}
use Rattle.bully_rows.specs.declared.header.Header.{Header}
use Rattle.bully_run.specs.Calls.{Answered, Broken, Call, Followed, Learn, Leave, Lost, Next, NotThere, Passed, SnapshotLost, SnapshotRead, Stopped, StoppedOn, Takes, Woke}
use Rattle.bully_run.specs.Run.{Done, Ends, Expires, Goes, Happening, Happens, HasRun, Process, Run, RunsBy, Sent, Starts, Told, first_run, id_of, sent_by, session_by, store_by, store_started, store_told, with_member}
use Rattle.bully_work.specs.Store.{Store, stops}

abbrev IsSized : MemberState → Type 0
IsSized m = length m.works ≡ (replica_of m).world.setup.partitions

if_sized : (b : Bool) (x y : MemberState) → IsSized x → IsSized y → IsSized (if b then x else y)
if_sized true x y one other = one
if_sized false x y one other = other

-- What it does next.

asked_sized : (m : MemberState) (now : ℕ) (st : Bool) (request : Request) → IsSized m → IsSized (noted m now st (Step.Ask request))
asked_sized m now st (Request.Acquire session offset) is = is
asked_sized m now st (Request.Renew session) is = is
asked_sized m now st (Request.Release session) is = is
asked_sized m now st Request.Snapshot is = is
asked_sized m now st (Request.Promise session offset) is = is
asked_sized m now st (Request.Append offset) is = is
asked_sized m now st (Request.RollOver offset) is = is
asked_sized m now st Request.Follow is = is

noted_sized : (m : MemberState) (now : ℕ) (st : Bool) (step : Step) → IsSized m → IsSized (noted m now st step)
noted_sized m now st (Step.Ask request) is = asked_sized m now st request is
noted_sized m now st (Step.Begin token) is = changed_sizes (begin_at (last_table m) m.terms.node) 0 m.works ∙ is
noted_sized m now st Step.Stop is = changed_sizes (stop_at (table_ahead m now st) m.terms.node) 0 m.works ∙ is
noted_sized m now st (Step.Wait at_most until reason) is = is
noted_sized m now st (Step.BackOff at_most reason) is = is
noted_sized m now st (Step.End ending) is = is

-- What it is told.

acquired_sized : (m : MemberState) (now : ℕ) (answer : StoreAnswer) (session : SessionId) (offset at : ℕ) → IsSized m → IsSized (when_acquired m now answer session offset at)
acquired_sized m now StoreAnswer.Done session offset at is = is
acquired_sized m now StoreAnswer.Refused session offset at is = is
acquired_sized m now StoreAnswer.Unanswered session offset at is = is

renewed_sized : (m : MemberState) (now : ℕ) (answer : StoreAnswer) (session : SessionId) (at : ℕ) → IsSized m → IsSized (when_renewed m now answer session at)
renewed_sized m now StoreAnswer.Done session at is = is
renewed_sized m now StoreAnswer.Refused session at is = is
renewed_sized m now StoreAnswer.Unanswered session at is = is

acquired_if : (state : SessionState) (m after : MemberState) → IsSized m → IsSized after → IsSized (acquired_by state m after)
acquired_if SessionState.Absent m after one other = other
acquired_if (SessionState.Unknown session) m after one other = one
acquired_if (SessionState.Live session at) m after one other = one

renewed_if : (state : SessionState) (m after : MemberState) → IsSized m → IsSized after → IsSized (renewed_by state m after)
renewed_if SessionState.Absent m after one other = one
renewed_if (SessionState.Unknown session) m after one other = one
renewed_if (SessionState.Live session at) m after one other = other

when_sized : (m : MemberState) (now : ℕ) (answer : StoreAnswer) (request : Request) (at : ℕ) → IsSized m → IsSized (when_answered m now answer request at)
when_sized m now answer (Request.Acquire session offset) at is = acquired_if m.session m _ is (acquired_sized m now answer session offset at is)
when_sized m now answer (Request.Renew session) at is = renewed_if m.session m _ is (renewed_sized m now answer session at is)
when_sized m now StoreAnswer.Done (Request.Release session) at is = is
when_sized m now StoreAnswer.Refused (Request.Release session) at is = is
when_sized m now StoreAnswer.Unanswered (Request.Release session) at is = is
when_sized m now answer Request.Snapshot at is = is
when_sized m now StoreAnswer.Done (Request.Promise session offset) at is = is
when_sized m now StoreAnswer.Refused (Request.Promise session offset) at is = is
when_sized m now StoreAnswer.Unanswered (Request.Promise session offset) at is = is
when_sized m now StoreAnswer.Done (Request.Append offset) at is = is
when_sized m now StoreAnswer.Refused (Request.Append offset) at is = is
when_sized m now StoreAnswer.Unanswered (Request.Append offset) at is = is
when_sized m now StoreAnswer.Done (Request.RollOver offset) at is = is
when_sized m now StoreAnswer.Refused (Request.RollOver offset) at is = is
when_sized m now StoreAnswer.Unanswered (Request.RollOver offset) at is = is
when_sized m now answer Request.Follow at is = is

answered_sized : (m : MemberState) (now : ℕ) (answer : StoreAnswer) (asked : Option Asked) → IsSized m → IsSized (answered_by m now answer asked)
answered_sized m now answer None is = is
answered_sized m now answer (Some asked) is = when_sized (record m { asked = None }) now answer asked.request asked.at is

own_sized : (m : MemberState) (own : Option (Promise × Bool)) → IsSized m → IsSized (own_by_promise m own)
own_sized m None is = is
own_sized m (Some own) is = is

own_by_sized : (m : MemberState) (state : SessionState) (here : Option Lease) → IsSized m → IsSized (own_by m state here)
own_by_sized m SessionState.Absent here is = is
own_by_sized m (SessionState.Unknown session) here is = is
own_by_sized m (SessionState.Live session at) here is = own_sized m (own_promise m session here) is

snapshot_sized : (m : MemberState) (now : ℕ) (leases : List Lease) (has_unknown has_request : Bool) (coming : Option (List ℕ)) (affected : List ℕ) (a b : Bool) → IsSized m
    → IsSized (if not a then m else if not b then record m { is_past = true; asked = None } else found_here (with_arrivals m now leases) now leases has_unknown has_request coming affected)
snapshot_sized m now leases has_unknown has_request coming affected false b is = is
snapshot_sized m now leases has_unknown has_request coming affected true false is = is
snapshot_sized m now leases has_unknown has_request coming affected true true is =
    own_by_sized (found (with_arrivals m now leases) now leases has_unknown has_request (admitted_among (with_arrivals m now leases) now leases) coming affected) m.session (lease_of m.terms.node leases) is

followed_sized : (m : MemberState) (now : ℕ) (header : Header) (t : Terms) (a b : Bool) → IsSized m
    → IsSized (if not a then m else if b then to_pause (record m { asked = None; is_past = false; needs_snapshot = true }) now else in_epoch m now (record { replica = first_replica header; rows = 0 }) t)
followed_sized m now header t false b is = is
followed_sized m now header t true true is = is
followed_sized m now header t true false is = length-replicate header.setup.partitions Activity.Idle

end_sized : (m : MemberState) (why : Ending) (ending : Option Ending) → IsSized m → IsSized (end_for m why ending)
end_sized m why None is = is
end_sized m why (Some ending) is = is

told_sized : (m : MemberState) (call : Call) (after : MemberState) → IsSized m → Takes m call after → IsSized after
told_sized m (Next now next) after is takes = subst IsSized (sym takes.noted) (noted_sized m now takes.sight.is_stable next is)
told_sized m (Answered now answer) after is takes = subst IsSized (sym takes) (answered_sized m now answer m.asked is)
told_sized m (Learn records taken) after is takes = subst IsSized (sym takes.rest) (is ∙ ap (λ (s : Setup). s.partitions) (sym takes.follows.setup))
told_sized m (SnapshotRead now epoch leases has_unknown has_request) after is takes =
    subst IsSized (sym takes) (snapshot_sized m now leases has_unknown has_request after.coming after.affected (awaits_snapshot m.asked) (epoch == m.terms.epoch) is)
told_sized m (SnapshotLost now leases) after is takes = subst IsSized (sym takes) is
told_sized m (Followed now header terms) after is takes =
    subst IsSized (sym takes.1) (followed_sized m now header terms (is_following m.asked) (nat_le terms.epoch m.terms.epoch || not (all_idle m.works)) is)
told_sized m NotThere after is takes = subst IsSized (sym takes) (if_sized (is_following m.asked) _ _ (end_sized (record m { asked = None }) Ending.NotThere m.ending is) is)
told_sized m Passed after is takes = subst IsSized (sym takes) is
told_sized m Woke after is takes = subst IsSized (sym takes) is
told_sized m Leave after is takes = subst IsSized (sym takes) (end_sized m Ending.Left m.ending is)
told_sized m Broken after is takes = subst IsSized (sym takes) (end_sized m Ending.Broken m.ending is)
told_sized m (Lost token) after is takes = subst IsSized (sym takes) (if_sized ((token == m.token) && any_working m.works) _ _ is is)
told_sized m Stopped after is takes = subst IsSized (sym takes) (changed_sizes end_at 0 m.works ∙ is)
told_sized m (StoppedOn k) after is takes = subst IsSized (sym takes) (changed_sizes (ended_at k) 0 m.works ∙ is)

-- All members of a run.

abbrev AllSized : Run → Type 0
AllSized R = (p : ℕ) (q : Process) → R.processes p ≡ Some q → IsSized q.member

moved_sized : (R : Run) (p i : ℕ) (after : MemberState) (s : Store) (more : List Sent) → AllSized R → IsSized after → AllSized (with_member R p i after s more)
moved_sized R p i after s more all is r q there = by_test (r == p) there
  where
    by_test : (b : Bool) → cond b (Some (record { name = i; member = after })) (R.processes r) ≡ Some q → IsSized q.member
    by_test true there = let this : record { name = i; member = after } ≡ q = cc there in subst (λ (x : Process). IsSized x.member) this is
    by_test false there = all r q there

next_sized : (R : Run) (h : Happening) (R' : Run) → AllSized R → Happens R h R' → AllSized R'
next_sized R (Starts p i header terms ttl) R' all (unborn, is, same) = subst AllSized (sym same) (moved_sized R p i (new_member header terms p ttl) (store_started R.store i p terms) [] all (length-replicate header.setup.partitions Activity.Idle))
next_sized R (Goes p now next deed) R' all (q, after, there, goes, may, same) = subst AllSized (sym same) (moved_sized R p q.name after (store_by R.store q.name q.member next deed) (sent_by q.name q.member next deed) all (told_sized q.member (Next now next) after (all p q there) goes))
next_sized R (Told p call) R' all (q, after, there, takes, may, same) = subst AllSized (sym same) (moved_sized R p q.name after (store_told R.store q.name q.member call) [] all (told_sized q.member call after (all p q there) takes))
next_sized R (Ends p number left) R' all (q, there, low, may, same) = subst AllSized (sym same) (moved_sized R p q.name q.member (stops R.store q.name (id_of (session_by p number)) left) [] all (all p q there))
next_sized R (Done x) R' all (has, s, is, same) = subst AllSized (sym same) all
next_sized R (Expires i) R' all same = subst AllSized (sym same) all

runs_sized : (happenings : List Happening) (R R' : Run) → AllSized R → RunsBy R happenings R' → AllSized R'
runs_sized [] R R' all is = subst AllSized (sym is) all
runs_sized (h ∷ happenings) R R' all (mid, happens, runs) = runs_sized happenings mid R' (next_sized R h mid all happens) runs

pub sized_lem : (happenings : List Happening) (R : Run) (p : ℕ) (q : Process) → HasRun happenings R → R.processes p ≡ Some q → length q.member.works ≡ (replica_of q.member).world.setup.partitions
sized_lem happenings R p q run = runs_sized happenings (first_run run.setup run.number) R (λ r x there. absurd (cc there)) run.runs p q
