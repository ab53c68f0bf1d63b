-- What becomes of each of the two before the change. It works on a partition, and hasn't read a snapshot yet, so it stops,
-- reads one and promises. Then it is woken, and reads that the other one has promised, too.
use Rattle.std.proofs.Common.{◌≡◌, ◌∷◌, [], ℕ, true, false, List, None, Ok, Contains, length, arith, refl, sym, subst}
use Rattle.std.specs.Option.{option_map}
use Rattle.bully_member.specs.Activities.{works_at}
use Rattle.bully_member.specs.Due.{HasAllOf, Sees, due, noted}
use Rattle.bully_member.specs.Learned.{after_learning}
use Rattle.bully_member.specs.Member.{MemberState, new_member, replica_of}
use Rattle.bully_member.specs.Told.{SeesIfFound, snapshot_read, stopped_on, to_snapshot}
use Rattle.bully_member.specs.declared.values.Activity.{Activity}
use Rattle.bully_member.specs.declared.values.Lease.{Lease}
use Rattle.bully_member.specs.declared.values.Request.{Request}
use Rattle.bully_member.specs.declared.values.SessionState.{SessionState}
use Rattle.bully_member.specs.declared.values.Step.{Step}
use Rattle.bully_replica.proofs.RowReplicaLemmas.{follows_none}
use Rattle.bully_replica.specs.LastPlan.{table_in}
use Rattle.bully_replica.specs.Replica.{ReplicaState, first_replica}
use Rattle.bully_round.proofs.SomeTurns.{all_down, busy_sight, free_sight, header, idle, learned, lease, not_stable, of_two, session, stopping, terms, turn}
use Rattle.bully_round.proofs.SomeView.{all_leases, both_live, one}
use Rattle.bully_round.specs.Progress.{DoesTasks, HasLooked, IsCalm, TakesTurn, Turn}
use Rattle.bully_run.specs.Calls.{StoppedOn}

-- the two nodes, the higher one first
abbrev pub nodes : List ℕ
nodes = 2 ∷ 1 ∷ []

-- what each finds before anybody has promised
abbrev early_leases : List Lease
early_leases = lease 1 0 ∷ lease 2 0 ∷ []

-- The member, after each step and each report.

abbrev pub starting : ℕ → MemberState
starting node = record (new_member header (terms node) node 1000) { session = SessionState.Live (session node) 0; tries = 1; works = Activity.Working ∷ [] }

abbrev to_stop : ℕ → MemberState
to_stop node = noted (starting node) 1 false Step.Stop

abbrev stopped : ℕ → MemberState
stopped node = stopped_on (to_stop node) 0

abbrev asking : ℕ → MemberState
asking node = noted (stopped node) 1 false (Step.Ask Request.Snapshot)

abbrev behind_none : MemberState → MemberState
behind_none m = after_learning m m.learned (Ok tt)

-- ... which has promised, and found that
abbrev pub promised : ℕ → MemberState
promised node = record (one node) { leases = early_leases }

abbrev looked : ℕ → MemberState
looked node = record (promised node) { own = record { epoch = 0; offset = 0 }; is_asked_exact = false }

abbrev promising : ℕ → MemberState
promising node = noted (looked node) 1 false (Step.Ask (Request.Promise (session node) 0))

abbrev woken : ℕ → MemberState
woken node = to_snapshot (promised node)

abbrev asking_again : ℕ → MemberState
asking_again node = noted (woken node) 1 false (Step.Ask Request.Snapshot)

-- What depends on which of the two it is.
record Reads (node : ℕ) : Type 0 where
  early : looked node ≡ snapshot_read (behind_none (asking node)) 1 1 early_leases false false None nodes
  promise : Step.Ask (Request.Promise (session node) 0) ≡ due (looked node) 1 free_sight
  again : one node ≡ snapshot_read (behind_none (asking_again node)) 1 1 all_leases false false None nodes

reads : (node : ℕ) → Contains nodes node → Reads node
reads = of_two Reads 2 1 (record { early = refl; promise = refl; again = refl }) (record { early = refl; promise = refl; again = refl })

-- What it sees.

sees_start : (node : ℕ) → Sees (starting node) 1 busy_sight
sees_start node = record {
  stable = ((λ is. absurd (cc is)), (λ stable. absurd (not_stable (starting node) refl stable)));
  down = ((λ is. all_down (replica_of (starting node)) refl), (λ is. refl));
  stays = ((λ is. absurd (cc is)), (λ may. absurd (cc (may 0 refl))));
  all = ((λ is. tt), (λ is. refl));
}

-- ... if it works on nothing, and has learned nothing
pub sees_free : (m : MemberState) → replica_of m ≡ first_replica header → m.works ≡ Activity.Idle ∷ [] → Sees m 1 free_sight
sees_free m same free = record {
  stable = ((λ is. absurd (cc is)), (λ stable. absurd (not_stable m same stable)));
  down = ((λ is. all_down (replica_of m) same), (λ is. refl));
  stays = ((λ is k busy. absurd (idle k (subst (λ works. works_at works k ≡ true) free busy))), (λ is. refl));
  all = ((λ is. subst (λ (r : ReplicaState). HasAllOf m (option_map table_in r.last)) (sym same) tt), (λ is. refl));
}

-- Each step, and each report.

stops : (node : ℕ) → TakesTurn (starting node) 1 1 Step.Stop (stopped node)
stops node = record {
  mid = to_stop node;
  goes = record { sight = busy_sight; sees = sees_start node; due = refl; noted = refl; keeps = tt; awaits = refl; stops = λ k busy. absurd (stopping k busy) };
  reported = (StoppedOn 0 ∷ [], (stopped node, tt, refl, refl), refl);
}

-- a snapshot before which it has learned no row
reads_none : (m after : MemberState) (leases : List Lease) → after ≡ snapshot_read (behind_none m) 1 m.terms.epoch leases false false after.coming after.affected → SeesIfFound after
    → HasLooked m 1 after
reads_none m after leases reads foresees = record {
  records = [];
  taken = Ok tt;
  behind = behind_none m;
  learns = record { left = []; follows = follows_none [] m.learned; rest = refl };
  leases = leases;
  has_unknown = false;
  has_request = false;
  reads = reads;
  foresees = foresees;
}

looks : (node : ℕ) → Reads node → TakesTurn (stopped node) 1 1 (Step.Ask Request.Snapshot) (looked node)
looks node is = record {
  mid = asking node;
  goes = record { sight = free_sight; sees = sees_free (stopped node) refl refl; due = refl; noted = refl; keeps = tt; awaits = refl; stops = λ k busy. absurd (idle k busy) };
  reported = reads_none (asking node) (looked node) early_leases is.early
      (record { falling = tt; live = (omega arith, omega arith, (omega arith, omega arith, tt)); comes = refl; affects = λ i. ((λ has. has), (λ has. has)) });
}

promises : (node : ℕ) → Reads node → TakesTurn (looked node) 1 1 (Step.Ask (Request.Promise (session node) 0)) (promised node)
promises node is = record {
  mid = promising node;
  goes = record { sight = free_sight; sees = sees_free (looked node) refl refl; due = is.promise; noted = refl; keeps = (record { free = refl; idle = λ eager. refl; end = refl }, (0, refl)); awaits = refl; stops = λ k busy. absurd (idle k busy) };
  reported = refl;
}

looks_again : (node : ℕ) → Reads node → TakesTurn (woken node) 1 1 (Step.Ask Request.Snapshot) (one node)
looks_again node is = record {
  mid = asking_again node;
  goes = record { sight = free_sight; sees = sees_free (woken node) refl refl; due = refl; noted = refl; keeps = tt; awaits = refl; stops = λ k busy. absurd (idle k busy) };
  reported = reads_none (asking_again node) (one node) all_leases is.again
      (record { falling = tt; live = (omega arith, omega arith, (omega arith, omega arith, tt)); comes = refl; affects = both_live });
}

-- It is calm.

calm_start : (node : ℕ) → IsCalm (starting node) 1
calm_start node = record { session = session node; since = 0; live = refl; early = refl; going = refl; within = refl; answered = refl; rested = refl; free = refl; quiet = refl; learned = learned; sized = λ p is. absurd (cc is) }

calm_stopped : (node : ℕ) → IsCalm (stopped node) 1
calm_stopped node = record { session = session node; since = 0; live = refl; early = refl; going = refl; within = refl; answered = refl; rested = refl; free = refl; quiet = refl; learned = learned; sized = λ p is. absurd (cc is) }

calm_looked : (node : ℕ) → IsCalm (looked node) 1
calm_looked node = record { session = session node; since = 0; live = refl; early = refl; going = refl; within = refl; answered = refl; rested = refl; free = refl; quiet = refl; learned = learned; sized = λ p is. absurd (cc is) }

calm_woken : (node : ℕ) → IsCalm (woken node) 1
calm_woken node = record { session = session node; since = 0; live = refl; early = refl; going = refl; within = refl; answered = refl; rested = refl; free = refl; quiet = refl; learned = learned; sized = λ p is. absurd (cc is) }

abbrev pub first_turns : ℕ → List Turn
first_turns node = turn Step.Stop ∷ turn (Step.Ask Request.Snapshot) ∷ turn (Step.Ask (Request.Promise (session node) 0)) ∷ []

abbrev pub second_turns : List Turn
second_turns = turn (Step.Ask Request.Snapshot) ∷ []

pub promises_lem : (node : ℕ) → Contains nodes node → DoesTasks (starting node) (first_turns node) (promised node)
promises_lem node among = let is = reads node among in (stopped node, calm_start node, stops node, refl, (looked node, calm_stopped node, looks node is, refl, (promised node, calm_looked node, promises node is, refl, refl)))

pub looks_lem : (node : ℕ) → Contains nodes node → DoesTasks (to_snapshot (promised node)) second_turns (one node)
looks_lem node among = (one node, calm_woken node, looks_again node (reads node among), refl, refl)

pub some_turns_lem : (m after : MemberState) × (turns : List Turn) × DoesTasks m turns after × (length turns ≡ 3)
some_turns_lem = (starting 1, promised 1, first_turns 1, promises_lem 1 (1, omega arith, refl), refl)
