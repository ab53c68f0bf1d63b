-- There are timed runs, with clocks of different rates: in this one a process acquires its lease, and renews it; so that
-- is sure after the ttl of the acquire is over by the store's clock. In the end the store ends it, once that may. If the
-- store's clock is too fast, the lease is still sure then.
use Rattle.std.proofs.Common.{◌≡◌, ◌<◌, ◌≤◌, ◌-◌, ◌*◌, ◌∷◌, ◌++◌, ◌⊎◌, inl, inr, [], ℕ, zero, suc, true, false, List, Some, None, Contains, arith, refl, sym, ap, subst}
use Rattle.std.proofs.lemmas.List.Elements.{Contains-push_cases}
use Rattle.bully_base.specs.Setup.{Setup}
use Rattle.bully_base.specs.declared.node.Status.TheVariants.{Down}
use Rattle.bully_clock.specs.Timed.{At, Clocks, EndsNoSooner, GoesOnBy, Grant, HasTimedRun, IsSteady, IsTrueAnswer, NeverBack, Renews, Timed, TimedBy, TimedRun, asked_at, first_timed, granted_at}
use Rattle.bully_member.specs.Activities.{works_at}
use Rattle.bully_member.specs.Due.{Sees, noted}
use Rattle.bully_member.specs.Keeping.{HasSession}
use Rattle.bully_member.specs.Member.{MemberState, SeesStable, new_member, replica_of}
use Rattle.bully_member.specs.Times.{sure}
use Rattle.bully_member.specs.Told.{answered, snapshot_read}
use Rattle.bully_member.specs.declared.opening.Terms.{Terms}
use Rattle.bully_member.specs.declared.values.Activity.{Activity}
use Rattle.bully_member.specs.declared.values.Asked.{Asked}
use Rattle.bully_member.specs.declared.values.Request.{Request}
use Rattle.bully_member.specs.declared.values.SessionId.{SessionId}
use Rattle.bully_member.specs.declared.values.Sight.{Sight}
use Rattle.bully_member.specs.declared.values.Step.{Step}
use Rattle.bully_member.specs.declared.values.StoreAnswer.{StoreAnswer}
use Rattle.bully_rebalance.specs.Stable.{IsStable}
use Rattle.bully_replica.specs.Replica.{ReplicaState, first_replica, token_of}
use Rattle.bully_rows.specs.declared.header.Header.{Header}
use Rattle.bully_rows.specs.declared.header.Version.{Version}
use Rattle.bully_run.specs.Calls.{Answered, AsksFor, SnapshotRead, session_now}
use Rattle.bully_run.specs.Run.{Deed, Done, Expires, Goes, Happening, Process, Run, SentAcquire, Starts, Told, first_run, id_of, session_by, store_by, store_told, with_member}
use Rattle.bully_work.specs.Store.{IsLive, IsOneToOne, Store, learns, nothing_in, with_lease}
use Rattle.bully_world.proofs.NodeInvariantLemmas.{first_node_state}
use Rattle.bully_world.proofs.WorldLemmas.{first_is}
use Rattle.bully_world.specs.State.{world_of}
use Rattle.bully_world.specs.World.{World, NodeState, vector}

-- in a moment a process's clock counts 9, and the store's that many
abbrev clocks : (rate : ℕ) → Clocks
clocks rate = record { own = λ p t. 9 * t; ender = λ o t. rate * t; ttl = λ p. 1000 }

steady : (p : ℕ) → IsSteady (clocks 10) p 0
steady p = record { onward = λ s t order. omega (arith, order); keeps = λ o s t order over. omega (arith, order, over) }

-- a group of one node, with one partition
abbrev setup : Setup
setup = record { nodes = 1; partitions = 1; events_max = 100; keeps = false; weights = 1 ∷ [] }

abbrev header : Header
header = record { version = Version.One; setup = setup }

abbrev terms : Terms
terms = record { epoch = 0; node = 1; rows_max = 100; old = None; is_cooperative = false }

abbrev number : ℕ → ℕ
number i = suc i

abbrev deed : Deed
deed = record { silent = λ i. false; seen = λ i. None; events = []; setup = setup; number = number; plan = record { planner = 0; table = []; token = 0 }; begun = [] }

abbrev session : SessionId
session = session_by 0 1

-- The member, after each call.

abbrev m0 : MemberState
m0 = new_member header terms 0 1000

abbrev m1 : MemberState
m1 = noted m0 9 false (Step.Ask Request.Snapshot)

abbrev m2 : MemberState
m2 = snapshot_read m1 9 0 [] false false None []

abbrev m3 : MemberState
m3 = noted m2 9 false (Step.Ask (Request.Acquire session 0))

abbrev m4 : MemberState
m4 = answered m3 18 StoreAnswer.Done

abbrev m5 : MemberState
m5 = noted m4 261 false (Step.Ask (Request.Renew session))

abbrev m6 : MemberState
m6 = answered m5 279 StoreAnswer.Done

-- The store, after each.

abbrev s0 : Store
s0 = (first_run setup number).store

abbrev s1 : Store
s1 = learns s0 0 (id_of (session_by 0 0)) 0 0

abbrev s2 : Store
s2 = store_told s1 0 m1 (SnapshotRead 9 0 [] false false)

abbrev s3 : Store
s3 = store_by s2 0 m2 (Step.Ask (Request.Acquire session 0)) deed

abbrev s4 : Store
s4 = with_lease s3 0 (Some (record { session = id_of session; promised = nothing_in 0 0 }))

-- What it sees, as long as it has learned nothing.

abbrev sight : Sight
sight = record { is_stable = false; are_down = true; may_go_on = true; has_all = true }

idle : (k : ℕ) → works_at (Activity.Idle ∷ []) k ≡ true → ⊥
idle zero is = absurd (cc is)
idle (suc k) is = absurd (cc is)

-- all nodes are Down at first
all_down : (r : ReplicaState) → r ≡ first_replica header → IsStable r [] 0
all_down r is = subst (λ x. IsStable x [] 0) (sym is) (record {
  nodes = λ i node. record { normal = λ has. absurd (none has); led = λ has. absurd (none has); down = λ apart. down i };
  plan = λ some. absurd (some refl);
})
  where
    none : {i : ℕ} → Contains [] i → ⊥
    none (k, low, is) = omega (arith, low)

    down : (i : ℕ) → (vector (world_of (first_replica header).world) i).status ≡ Down
    down i = subst (λ (w : World). (vector w i).status ≡ Down) (sym (first_is setup)) (ap (λ (x : NodeState). x.vector.status) (first_node_state setup i))

not_stable : (m : MemberState) → replica_of m ≡ first_replica header → SeesStable m → ⊥
not_stable m learned stable =
    let none : token_of (replica_of m).last ≡ 0 = ap (λ (r : ReplicaState). token_of r.last) learned in
    let low = stable.behind in
    omega (arith, low, none)

sees0 : Sees m0 9 sight
sees0 = record {
  stable = ((λ is. absurd (cc is)), (λ stable. absurd (not_stable m0 refl stable)));
  down = ((λ is. all_down (replica_of m0) refl), (λ is. refl));
  stays = ((λ is k busy. absurd (idle k busy)), (λ is. refl));
  all = ((λ is. tt), (λ is. refl));
}

sees2 : Sees m2 9 sight
sees2 = record {
  stable = ((λ is. absurd (cc is)), (λ stable. absurd (not_stable m2 refl stable)));
  down = ((λ is. all_down (replica_of m2) refl), (λ is. refl));
  stays = ((λ is k busy. absurd (idle k busy)), (λ is. refl));
  all = ((λ is. tt), (λ is. refl));
}

sees4 : Sees m4 261 sight
sees4 = record {
  stable = ((λ is. absurd (cc is)), (λ stable. absurd (not_stable m4 refl stable)));
  down = ((λ is. all_down (replica_of m4) refl), (λ is. refl));
  stays = ((λ is k busy. absurd (idle k busy)), (λ is. refl));
  all = ((λ is. tt), (λ is. refl));
}

-- The run, after each happening.

abbrev r0 : Run
r0 = first_run setup number

abbrev r1 : Run
r1 = with_member r0 0 0 m0 s1 []

abbrev r2 : Run
r2 = with_member r1 0 0 m1 s1 []

abbrev r3 : Run
r3 = with_member r2 0 0 m2 s2 []

abbrev r4 : Run
r4 = with_member r3 0 0 m3 s3 (SentAcquire 0 (id_of session) 0 0 ∷ [])

abbrev r5 : Run
r5 = record r4 { store = s4 }

abbrev r6 : Run
r6 = with_member r5 0 0 m4 s4 []

abbrev r7 : Run
r7 = with_member r6 0 0 m5 s4 []

abbrev r8 : Run
r8 = with_member r7 0 0 m6 s4 []

abbrev r9 : Run
r9 = record r8 { store = with_lease s4 0 None }

-- What happens.

abbrev h1 : Happening
h1 = Starts 0 0 header terms 1000

abbrev h2 : Happening
h2 = Goes 0 9 (Step.Ask Request.Snapshot) deed

abbrev h3 : Happening
h3 = Told 0 (SnapshotRead 9 0 [] false false)

abbrev h4 : Happening
h4 = Goes 0 9 (Step.Ask (Request.Acquire session 0)) deed

abbrev h5 : Happening
h5 = Done (SentAcquire 0 (id_of session) 0 0)

abbrev h6 : Happening
h6 = Told 0 (Answered 18 StoreAnswer.Done)

abbrev h7 : Happening
h7 = Goes 0 261 (Step.Ask (Request.Renew session)) deed

abbrev h8 : Happening
h8 = Told 0 (Answered 279 StoreAnswer.Done)

abbrev grant_at : ℕ → Grant
grant_at t = record { name = 0; session = id_of session; at = t }

-- the timed run, after each
abbrev next_by : TimedRun → ℕ → Happening → Run → TimedRun
next_by T t h R = record { run = R; now = t; asked = asked_at T.asked t h; gone = T.gone; grants = granted_at T.grants t h }

abbrev t0 : TimedRun
t0 = first_timed setup number

abbrev t1 : TimedRun
t1 = next_by t0 0 h1 r1

abbrev t2 : TimedRun
t2 = next_by t1 1 h2 r2

abbrev t3 : TimedRun
t3 = next_by t2 1 h3 r3

abbrev t4 : TimedRun
t4 = next_by t3 1 h4 r4

abbrev t5 : TimedRun
t5 = next_by t4 2 h5 r5

abbrev t6 : TimedRun
t6 = next_by t5 2 h6 r6

abbrev t7 : TimedRun
t7 = next_by t6 29 h7 r7

abbrev t8 : TimedRun
t8 = record t7 { now = 30; grants = t7.grants ++ grant_at 30 ∷ [] }

abbrev t9 : TimedRun
t9 = next_by t8 31 h8 r8

abbrev t10 : (at : ℕ) → TimedRun
t10 at = next_by t9 at (Expires 0) r9

starts : (rate : ℕ) → GoesOnBy (clocks rate) t0 (At 0 h1) t1
starts rate = (omega arith, r1, ((refl, record { started = omega arith; setup = refl; number = refl }, refl), refl), refl)

looks : (rate : ℕ) → GoesOnBy (clocks rate) t1 (At 1 h2) t2
looks rate = (omega arith, r2, ((record { name = 0; member = m0 }, m1, refl, record { sight = sight; sees = sees0; due = refl; noted = refl; keeps = tt; awaits = refl; stops = λ k busy. absurd (idle k busy) }, tt, refl), refl, refl), refl)

reads : (rate : ℕ) → GoesOnBy (clocks rate) t2 (At 1 h3) t3
reads rate = (omega arith, r3, ((record { name = 0; member = m1 }, m2, refl, refl, (λ awaits same. (0, omega arith, refl)), refl), (λ q there. tt)), refl)

acquires : (rate : ℕ) → GoesOnBy (clocks rate) t3 (At 1 h4) t4
acquires rate = (
  omega arith,
  r4,
  (
    (
      record { name = 0; member = m2 },
      m3,
      refl,
      record { sight = sight; sees = sees2; due = refl; noted = refl; keeps = (record { idle = refl; end = refl }, (refl, refl)); awaits = refl; stops = λ k busy. absurd (idle k busy) },
      omega arith,
      refl,
    ),
    refl,
    refl,
  ),
  refl,
)

gives : (rate : ℕ) → GoesOnBy (clocks rate) t4 (At 2 h5) t5
gives rate = (omega arith, r5, ((0, omega arith, refl), s4, ((refl, refl, refl), refl), refl), refl)

-- The answers are true.

acquired : IsTrueAnswer t5 0 (record { name = 0; member = m3 }) StoreAnswer.Done
acquired asked other some asks = (grant_at 2, (0, omega arith, refl), refl, ap id_of for_it, low)
  where
    this : record { request = Request.Acquire session 0; at = 9 } ≡ asked
    this = cc some

    for_it : session ≡ other
    for_it = subst (λ (x : Asked). AsksFor other (Step.Ask x.request)) (sym this) asks

    low : 1 ≤ 2
    low = omega arith

renewed : IsTrueAnswer t8 0 (record { name = 0; member = m5 }) StoreAnswer.Done
renewed asked other some asks = (grant_at 30, (1, omega arith, refl), refl, ap id_of for_it, low)
  where
    this : record { request = Request.Renew session; at = 261 } ≡ asked
    this = cc some

    for_it : session ≡ other
    for_it = subst (λ (x : Asked). AsksFor other (Step.Ask x.request)) (sym this) asks

    low : 29 ≤ 30
    low = omega arith

tells : (rate : ℕ) → GoesOnBy (clocks rate) t5 (At 2 h6) t6
tells rate = (omega arith, r6, ((record { name = 0; member = m3 }, m4, refl, refl, tt, refl), (λ q there. let this : record { name = 0; member = m3 } ≡ q = cc there in subst (λ (x : Process). IsTrueAnswer t5 0 x StoreAnswer.Done) this acquired)), refl)

asks_again : (rate : ℕ) → GoesOnBy (clocks rate) t6 (At 29 h7) t7
asks_again rate = (omega arith, r7, ((record { name = 0; member = m4 }, m5, refl, record { sight = sight; sees = sees4; due = refl; noted = refl; keeps = (9, refl); awaits = refl; stops = λ k busy. absurd (idle k busy) }, tt, refl), refl, refl), refl)

renews : (rate : ℕ) → GoesOnBy (clocks rate) t7 (Renews 30 0 (id_of session)) t8
renews rate = (omega arith, (nothing_in 0 0, refl), refl)

tells_again : (rate : ℕ) → GoesOnBy (clocks rate) t8 (At 31 h8) t9
tells_again rate = (omega arith, r8, ((record { name = 0; member = m5 }, m6, refl, refl, tt, refl), (λ q there. let this : record { name = 0; member = m5 } ≡ q = cc there in subst (λ (x : Process). IsTrueAnswer t8 0 x StoreAnswer.Done) this renewed)), refl)

-- the store may end the lease a ttl by its clock after the renewal
over : (rate at : ℕ) → 30 ≤ at → 1000 ≤ rate * at - rate * 30 → EndsNoSooner (clocks rate) t9 0 at
over rate at later enough n live = inl (record {
  clock = 0;
  since = 30;
  after = λ g has same own. by_cases g (Contains-push_cases (grant_at 2 ∷ []) (grant_at 30) g has);
  before = later;
  ttl = λ p k low own. enough;
})
  where
    by_first : (g : Grant) → Contains [] g ⊎ (grant_at 2 ≡ g) → g.at ≤ 30
    by_first g (inl (k, low, is)) = absurd (omega (arith, low))
    by_first g (inr this) = subst (λ (x : Grant). x.at ≤ 30) this (let low : 2 ≤ 30 = omega arith in low)

    by_cases : (g : Grant) → Contains (grant_at 2 ∷ []) g ⊎ (grant_at 30 ≡ g) → g.at ≤ 30
    by_cases g (inl has) = by_first g (Contains-push_cases [] (grant_at 2) g has)
    by_cases g (inr this) = subst (λ (x : Grant). x.at ≤ 30) this (let low : 30 ≤ 30 = omega arith in low)

ends : (rate at : ℕ) → 31 ≤ at → 1000 ≤ rate * at - rate * 30 → GoesOnBy (clocks rate) t9 (At at (Expires 0)) (t10 at)
ends rate at later enough = (later, r9, (refl, over rate at (omega (arith, later)) enough), refl)

-- Both runs.

abbrev timed : List Timed
timed = At 0 h1 ∷ At 1 h2 ∷ At 1 h3 ∷ At 1 h4 ∷ At 2 h5 ∷ At 2 h6 ∷ At 29 h7 ∷ Renews 30 0 (id_of session) ∷ At 31 h8 ∷ []

abbrev longer : (at : ℕ) → List Timed
longer at = At 0 h1 ∷ At 1 h2 ∷ At 1 h3 ∷ At 1 h4 ∷ At 2 h5 ∷ At 2 h6 ∷ At 29 h7 ∷ Renews 30 0 (id_of session) ∷ At 31 h8 ∷ At at (Expires 0) ∷ []

by : (rate : ℕ) → TimedBy (clocks rate) t0 timed t9
by rate = (t1, starts rate, (t2, looks rate, (t3, reads rate, (t4, acquires rate, (t5, gives rate, (t6, tells rate, (t7, asks_again rate, (t8, renews rate, (t9, tells_again rate, refl)))))))))

by_longer : (rate at : ℕ) → 31 ≤ at → 1000 ≤ rate * at - rate * 30 → TimedBy (clocks rate) t0 (longer at) (t10 at)
by_longer rate at later enough =
    (t1, starts rate, (t2, looks rate, (t3, reads rate, (t4, acquires rate, (t5, gives rate, (t6, tells rate, (t7, asks_again rate, (t8, renews rate, (t9, tells_again rate, (t10 at, ends rate at later enough, refl))))))))))

has : HasTimedRun (clocks 10) timed t9
has = record { setup = setup; number = number; one = λ i j same. omega (arith, same); steady = steady; by = by 10 }

has_longer : HasTimedRun (clocks 10) (longer 130) (t10 130)
has_longer = record { setup = setup; number = number; one = λ i j same. omega (arith, same); steady = steady; by = by_longer 10 130 (omega arith) (omega arith) }

-- at the moment 110 the store's clock has counted 1080 since the acquire, and the process's 729 since it asked to renew
pub some_lem : (C : Clocks) × (timed : List Timed) × (T : TimedRun) × (q : Process) × (t : ℕ) × (g : Grant) × HasTimedRun C timed T × (T.run.processes 0 ≡ Some q) × (T.now ≤ t)
    × (C.own 0 0 ≡ C.ender 0 0) × (C.own 0 t < C.ender 0 t) × Contains T.grants g × (g.name ≡ q.name) × (g.session ≡ id_of (session_now q.member))
    × (C.ttl 0 ≤ C.ender 0 t - C.ender 0 g.at) × (sure q.member.session q.member.ttl (C.own 0 t) ≡ true) × IsLive T.run.store q.name (id_of (session_now q.member))
some_lem = (clocks 10, timed, t9, record { name = 0; member = m6 }, 110, grant_at 2, has, refl, omega arith, refl, omega arith, (0, omega arith, refl), refl, refl, omega arith, refl, (nothing_in 0 0, refl))

pub ends_lem : (C : Clocks) × (timed : List Timed) × (T : TimedRun) × (q : Process) × HasTimedRun C timed T × (T.run.processes 0 ≡ Some q) × (T.gone 0 ≡ false) × HasSession q.member (session_now q.member) × (T.run.store.live q.name ≡ None)
ends_lem = (clocks 10, longer 130, t10 130, record { name = 0; member = m6 }, has_longer, refl, refl, (261, refl), refl)

-- at the moment 114 a store's clock that counts 12 has counted 1008 since the renewal, and the process's 756
pub tight_lem : (C : Clocks) × (setup : Setup) × (number : ℕ → ℕ) × (timed : List Timed) × (T : TimedRun) × (q : Process) × IsOneToOne number × TimedBy C (first_timed setup number) timed T × (T.run.processes 0 ≡ Some q) × NeverBack (C.own 0)
    × ((o s t : ℕ) → s ≤ t → C.ttl 0 ≤ C.ender o t - C.ender o s → 7 * C.ttl 0 ≤ 10 * (C.own 0 t - C.own 0 s)) × (T.gone 0 ≡ false) × (q.member.ending ≡ None) × (sure q.member.session q.member.ttl (C.own 0 T.now) ≡ true) × (T.run.store.live q.name ≡ None)
tight_lem = (
  clocks 12,
  setup,
  number,
  longer 114,
  t10 114,
  record { name = 0; member = m6 },
  (λ i j same. omega (arith, same)),
  by_longer 12 114 (omega arith) (omega arith),
  refl,
  (λ s t order. omega (arith, order)),
  (λ o s t order over. omega (arith, order, over)),
  refl,
  refl,
  refl,
  refl,
)
