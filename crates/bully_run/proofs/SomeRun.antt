-- There are runs: in this one a process starts, reads a snapshot, asks for its lease, which the store gives it, and is
-- told that.
use Rattle.std.proofs.Common.{◌≡◌, ◌∷◌, [], ℕ, zero, suc, true, false, List, Some, None, Contains, arith, refl, sym, ap, subst}
use Rattle.bully_base.specs.Setup.{Setup}
use Rattle.bully_base.specs.declared.node.Status.TheVariants.{Down}
use Rattle.bully_member.specs.Activities.{works_at}
use Rattle.bully_member.specs.Due.{Sees, noted}
use Rattle.bully_member.specs.Member.{MemberState, SeesStable, new_member, replica_of}
use Rattle.bully_member.specs.Told.{answered, snapshot_read}
use Rattle.bully_member.specs.declared.opening.Terms.{Terms}
use Rattle.bully_member.specs.declared.values.Activity.{Activity}
use Rattle.bully_member.specs.declared.values.Request.{Request}
use Rattle.bully_member.specs.declared.values.Sight.{Sight}
use Rattle.bully_member.specs.declared.values.Step.{Step}
use Rattle.bully_member.specs.declared.values.StoreAnswer.{StoreAnswer}
use Rattle.bully_rebalance.specs.Stable.{IsStable}
use Rattle.bully_replica.specs.Replica.{ReplicaState, first_replica, token_of}
use Rattle.bully_rows.specs.declared.header.Header.{Header}
use Rattle.bully_rows.specs.declared.header.Version.{Version}
use Rattle.bully_member.specs.Keeping.{HasSession}
use Rattle.bully_run.specs.Calls.{Answered, SnapshotRead, session_now}
use Rattle.bully_run.specs.Run.{Deed, Done, Goes, Happening, Happens, HasRun, Process, Run, RunsBy, SentAcquire, Starts, Told, first_run, id_of, session_by, store_by, store_told, with_member}
use Rattle.bully_work.specs.Store.{IsLive, Store, learns, nothing_in, with_lease}
use Rattle.bully_world.proofs.NodeInvariantLemmas.{first_node_state}
use Rattle.bully_world.proofs.WorldLemmas.{first_is}
use Rattle.bully_world.specs.State.{world_of}
use Rattle.bully_world.specs.World.{World, NodeState, vector}

-- a group of one node, with one partition
abbrev setup : Setup
setup = record { nodes = 1; partitions = 1; events_max = 100; keeps = false; weights = 1 ∷ [] }

abbrev header : Header
header = record { version = Version.One; setup = setup }

abbrev terms : Terms
terms = record { epoch = 0; node = 1; rows_max = 100; old = None; is_cooperative = false }

abbrev number : ℕ → ℕ
number i = suc i

abbrev pub deed : Deed
deed = record { silent = λ i. false; seen = λ i. None; events = []; setup = setup; number = number; plan = record { planner = 0; table = []; token = 0 }; begun = [] }

-- The member, after each call.

abbrev m0 : MemberState
m0 = new_member header terms 0 1000

abbrev m1 : MemberState
m1 = noted m0 1 false (Step.Ask Request.Snapshot)

abbrev m2 : MemberState
m2 = snapshot_read m1 1 0 [] false false None []

abbrev m3 : MemberState
m3 = noted m2 1 false (Step.Ask (Request.Acquire (session_by 0 1) 0))

abbrev pub m4 : MemberState
m4 = answered m3 2 StoreAnswer.Done

-- The store, after each.

abbrev s0 : Store
s0 = (first_run setup number).store

abbrev s1 : Store
s1 = learns s0 0 (id_of (session_by 0 0)) 0 0

abbrev s2 : Store
s2 = store_told s1 0 m1 (SnapshotRead 1 0 [] false false)

abbrev s3 : Store
s3 = store_by s2 0 m2 (Step.Ask (Request.Acquire (session_by 0 1) 0)) deed

abbrev pub s4 : Store
s4 = with_lease s3 0 (Some (record { session = id_of (session_by 0 1); promised = nothing_in 0 0 }))

-- What it sees, as long as it has learned nothing.

abbrev pub sight : Sight
sight = record { is_stable = false; are_down = true; may_go_on = true; has_all = true }

pub idle : (k : ℕ) → works_at (Activity.Idle ∷ []) k ≡ true → ⊥
idle zero is = absurd (cc is)
idle (suc k) is = absurd (cc is)

-- all nodes are Down at first
pub all_down : (r : ReplicaState) → r ≡ first_replica header → IsStable r [] 0
all_down r is = subst (λ x. IsStable x [] 0) (sym is) (record {
  nodes = λ i node. record { normal = λ has. absurd (none has); led = λ has. absurd (none has); down = λ apart. down i };
  plan = λ some. absurd (some refl);
})
  where
    none : {i : ℕ} → Contains [] i → ⊥
    none (k, low, is) = omega (arith, low)

    down : (i : ℕ) → (vector (world_of (first_replica header).world) i).status ≡ Down
    down i = subst (λ (w : World). (vector w i).status ≡ Down) (sym (first_is setup)) (ap (λ (x : NodeState). x.vector.status) (first_node_state setup i))

pub not_stable : (m : MemberState) → replica_of m ≡ first_replica header → SeesStable m → ⊥
not_stable m learned stable =
    let none : token_of (replica_of m).last ≡ 0 = ap (λ (r : ReplicaState). token_of r.last) learned in
    let low = stable.behind in
    omega (arith, low, none)

sees0 : Sees m0 1 sight
sees0 = record {
  stable = ((λ is. absurd (cc is)), (λ stable. absurd (not_stable m0 refl stable)));
  down = ((λ is. all_down (replica_of m0) refl), (λ is. refl));
  stays = ((λ is k busy. absurd (idle k busy)), (λ is. refl));
  all = ((λ is. tt), (λ is. refl));
}

sees2 : Sees m2 1 sight
sees2 = record {
  stable = ((λ is. absurd (cc is)), (λ stable. absurd (not_stable m2 refl stable)));
  down = ((λ is. all_down (replica_of m2) refl), (λ is. refl));
  stays = ((λ is k busy. absurd (idle k busy)), (λ is. refl));
  all = ((λ is. tt), (λ is. refl));
}

-- Each happening.

abbrev r0 : Run
r0 = first_run setup number

abbrev r1 : Run
r1 = with_member r0 0 0 m0 s1 []

abbrev r2 : Run
r2 = with_member r1 0 0 m1 s1 []

abbrev r3 : Run
r3 = with_member r2 0 0 m2 s2 []

abbrev r4 : Run
r4 = with_member r3 0 0 m3 s3 (SentAcquire 0 (id_of (session_by 0 1)) 0 0 ∷ [])

abbrev r5 : Run
r5 = record r4 { store = s4 }

abbrev pub r6 : Run
r6 = with_member r5 0 0 m4 s4 []

starts : Happens r0 (Starts 0 0 header terms 1000) r1
starts = (refl, record { started = omega arith; setup = refl; number = refl }, refl)

asks : Happens r1 (Goes 0 1 (Step.Ask Request.Snapshot) deed) r2
asks = (record { name = 0; member = m0 }, m1, refl, record { sight = sight; sees = sees0; due = refl; noted = refl; keeps = tt; awaits = refl; stops = λ k busy. absurd (idle k busy) }, tt, refl)

reads : Happens r2 (Told 0 (SnapshotRead 1 0 [] false false)) r3
reads = (record { name = 0; member = m1 }, m2, refl, refl, (λ awaits same. (0, omega arith, refl)), refl)

acquires : Happens r3 (Goes 0 1 (Step.Ask (Request.Acquire (session_by 0 1) 0)) deed) r4
acquires = (
  record { name = 0; member = m2 },
  m3,
  refl,
  record { sight = sight; sees = sees2; due = refl; noted = refl; keeps = (record { idle = refl; end = refl }, (refl, refl)); awaits = refl; stops = λ k busy. absurd (idle k busy) },
  omega arith,
  refl,
)

gives : Happens r4 (Done (SentAcquire 0 (id_of (session_by 0 1)) 0 0)) r5
gives = ((0, omega arith, refl), s4, ((refl, refl, refl), refl), refl)

tells : Happens r5 (Told 0 (Answered 2 StoreAnswer.Done)) r6
tells = (record { name = 0; member = m3 }, m4, refl, refl, tt, refl)

abbrev pub happenings : List Happening
happenings =
    Starts 0 0 header terms 1000 ∷ Goes 0 1 (Step.Ask Request.Snapshot) deed ∷ Told 0 (SnapshotRead 1 0 [] false false)
    ∷ Goes 0 1 (Step.Ask (Request.Acquire (session_by 0 1) 0)) deed ∷ Done (SentAcquire 0 (id_of (session_by 0 1)) 0 0)
    ∷ Told 0 (Answered 2 StoreAnswer.Done) ∷ []

runs : RunsBy r0 happenings r6
runs = (r1, starts, (r2, asks, (r3, reads, (r4, acquires, (r5, gives, (r6, tells, refl))))))

pub some_run : HasRun happenings r6
some_run = record { setup = setup; number = number; one = λ i j same. omega (arith, same); runs = runs }

pub some_lem : (calls : List Happening) × (R : Run) × (q : Process) × HasRun calls R × (R.processes 0 ≡ Some q) × IsLive R.store q.name (id_of (session_now q.member)) × HasSession q.member (session_now q.member)
some_lem = (happenings, r6, record { name = 0; member = m4 }, some_run, refl, (nothing_in 0 0, refl), (1, refl))
