-- How a member changes by rows that it learns, and by an epoch in which it goes on.
use Rattle.std.specs.Prelude.{nat_le, ◌≡◌, ◌==◌, ◌||◌, not, if◌then◌else◌, ℕ, Bool, true, false, [], Option, Some, None}
use Rattle.std.specs.Prelude.{Result, Ok, Err, replicate}
use Rattle.bully_member.specs.Activities.{all_idle}
use Rattle.bully_member.specs.Member.{MemberState, nobody_yet}
use Rattle.bully_member.specs.Told.{end_for, to_pause}
use Rattle.bully_member.specs.declared.opening.MemberFault.{MemberFault}
use Rattle.bully_member.specs.declared.opening.Terms.{Terms}
use Rattle.bully_member.specs.declared.values.Activity.{Activity}
use Rattle.bully_member.specs.declared.values.Asked.{Asked}
use Rattle.bully_member.specs.declared.values.Ending.{Ending}
use Rattle.bully_member.specs.declared.values.Request.{Request}
use Rattle.bully_replica.specs.RowReplica.{RowReplicaState}
use Rattle.bully_replica.specs.Replica.{first_replica}
use Rattle.bully_replica.specs.declared.row_replica.LearnFault.{LearnFault}
use Rattle.bully_rows.specs.declared.header.Header.{Header}
use Rattle.bully_rows.specs.declared.trace.TraceCause.{TraceCause}

-- whether the fault is the log's, and not one of memory or of reading
abbrev pub is_of_log : LearnFault → Bool
is_of_log (LearnFault.Form TraceCause.OutOfMemory) = false
is_of_log (LearnFault.Form TraceCause.Read) = false
is_of_log fault = true

-- whether no member can go on after what was learned: a row isn't learned, or one was learned that has no event
abbrev pub is_broken : RowReplicaState → Result (Unit {0}) LearnFault → Bool
is_broken f (Ok done) = not (f.rows == f.replica.world.events)
is_broken f (Err fault) = is_of_log fault

-- why a member ends, if its log may be broken
abbrev pub ending_behind : Option Ending → Bool → Option Ending
ending_behind None true = Some Ending.Broken
ending_behind ending is_broken = ending

-- the member that has learned this, by how that ended
abbrev pub after_learning : MemberState → RowReplicaState → Result (Unit {0}) LearnFault → MemberState
after_learning m f taken =
    record m { learned = f; ending = ending_behind m.ending (is_broken f taken); needs_snapshot = true }

abbrev pub is_follow : Request → Bool
is_follow Request.Follow = true
is_follow request = false

abbrev pub is_following : Option Asked → Bool
is_following None = false
is_following (Some asked) = is_follow asked.request

-- the member in this epoch, of whose log it has learned nothing. It works on nothing. Its session stays, and has
-- promised nothing there
abbrev pub in_epoch : MemberState → (now : ℕ) → RowReplicaState → Terms → MemberState
in_epoch m now f t = record m {
  learned = f;
  terms = t;
  promised = 0;
  own = record { epoch = 0; offset = 0 };
  is_exact = false;
  leases = [];
  arrivals = replicate f.replica.world.setup.nodes nobody_yet;
  group = [];
  coming = None;
  affected = [];
  has_unknown = false;
  has_request = false;
  needs_snapshot = true;
  last_change = record { at = now; offset = 0 };
  is_past = false;
  has_closed = false;
  works = replicate f.replica.world.setup.partitions Activity.Idle;
  asked = None;
}

abbrev pub followed : MemberState → (now : ℕ) → Header → Terms → MemberState
followed m now header t =
    if not (is_following m.asked) then m else
    if nat_le t.epoch m.terms.epoch || not (all_idle m.works)
    then to_pause (record m { asked = None; is_past = false; needs_snapshot = true }) now else
    in_epoch m now (record { replica = first_replica header; rows = 0 }) t

-- refused for the terms' first fault, or because an allocation failed
abbrev pub RefusesTerms : Option MemberFault → MemberFault → Type 0
RefusesTerms None why = why ≡ MemberFault.OutOfMemory
RefusesTerms (Some fault) why = why ≡ fault

abbrev pub not_there : MemberState → MemberState
not_there m = if is_following m.asked then end_for (record m { asked = None }) Ending.NotThere m.ending else m
