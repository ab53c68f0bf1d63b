-- What the process of a node does by what it knows, it may do by the rules of bully_work.
use Rattle.std.proofs.Common.{◌≡◌, ◌+◌, ◌<◌, ◌&&◌, ◌==◌, ◌++◌, ◌∷◌, [], ℕ, Bool, true, false, cond, List, Option, Some, Contains, length, take, arith, refl, subst, ◌⊎◌, inl, inr, ap, sym, ◌≤◌, ◌∙◌}
use Rattle.std.proofs.lemmas.Bool.Decides.{nat_tests}
use Rattle.std.proofs.lemmas.List.{length-take, take_all}
use Rattle.std.proofs.lemmas.List.Elements.{Contains-push, Contains-push_cases}
use Rattle.bully_base.specs.NodeSet.{IsFallingBelow}
use Rattle.bully_base.specs.Setup.{Setup}
use Rattle.bully_calls.specs.declared.event.Event.{Event}
use Rattle.bully_replica.specs.Replica.{IsLogOf, ReplicaState}
use Rattle.bully_rebalance.proofs.LeaveLemmas.{may_append_lem}
use Rattle.bully_rebalance.proofs.OwnLemmas.{owned_exactly, owned_owns}
use Rattle.bully_rebalance.specs.Acting.{ActsBy, IsPiece, IsReachedBy}
use Rattle.bully_rebalance.specs.Leaving.{AreLeft, LoseNothing}
use Rattle.bully_rebalance.specs.Owning.{OwnsBy, owned_by}
use Rattle.bully_rebalance.specs.Rebalancing.{Rebalances}
use Rattle.bully_rebalance.specs.declared.holding.Owned.{Owned}
use Rattle.bully_table.specs.Planning.{planned}
use Rattle.bully_work.specs.Store.{AcceptsAppend, Epoch, HasWork, IsBefore, IsLive, IsOwner, Lease, MayAcquire, MayAppend, MayBegin, MayPromise, MayYield, Piece, Promised, Session, Store, begins, current, learns, nothing_in, promises, stops, with_session}

-- a promise that reaches no further stands before a plan after that
before_plan : (p : Promised) (e promised : ℕ) (x : Piece) → x.epoch ≡ e → promised < x.plan.token → IsReachedBy p e promised → IsBefore p x
before_plan p e promised x same behind (inl low) = inl (omega (arith, low, same))
before_plan p e promised x same behind (inr (here, low)) = inr (here ∙ sym same, omega (arith, low, behind))

pub begin_lem : (r : ReplicaState) (e node promised : ℕ) (works : List ℕ) (s : Store) (i n k : ℕ) (o : Owned) → ActsBy r e node promised works s i n → IsLive s i n → owned_by r node promised ≡ Some o → Contains o.partitions k
    → (x : Piece) × IsPiece x e o.token k × MayBegin s i n x
begin_lem r e node promised works s i n k o acts here is has = (
  piece,
  record { epoch = refl; token = owns.token; partition = refl },
  record {
    live = here;
    epoch = sym acts.epoch;
    number = acts.number;
    owner = subst (λ setup. IsOwner setup (take (s.sessions i n).learned (s.epochs e).log) node owns.plan) acts.setup owns.owner;
    gives = (owned_exactly r node promised o is (take (s.sessions i n).learned (s.epochs e).log) owns.plan acts.learned owns.owner k).0 has;
    behind = λ p made. let token = owns.token in let behind = owns.behind in before_plan p e promised piece refl (omega (arith, token, behind)) (acts.reached p made);
  },
)
  where
    owns : OwnsBy r.world.setup (take (s.sessions i n).learned (s.epochs e).log) node promised o.token
    owns = owned_owns r node promised o is (take (s.sessions i n).learned (s.epochs e).log) acts.learned

    piece : Piece
    piece = record { epoch = e; number = node; plan = owns.plan; partition = k }

-- a session that has promised this
pub promised_here : (s : Store) (i n : ℕ) (p : Promised) → Contains ((promises s i n p).sessions i n).promises p
promised_here s i n p = by_test (i == i && n == n) (grind (arith, nat_tests))
  where
    by_test : (b : Bool) → b ≡ true → Contains (cond b (record (s.sessions i n) { promises = (s.sessions i n).promises ++ p ∷ [] }) (s.sessions i n)).promises p
    by_test true is = Contains-push (s.sessions i n).promises p
    by_test false is = absurd (cc is)

pub promise_lem : (r : ReplicaState) (e node promised : ℕ) (works : List ℕ) (s : Store) (i n offset : ℕ) → ActsBy r e node promised works s i n
    → MayPromise s i n (record { epoch = e; offset = offset; kept = works }) × MayYield (promises s i n (record { epoch = e; offset = offset; kept = works })) i n (record { epoch = e; offset = offset; kept = works })
promise_lem r e node promised works s i n offset acts = (acts.known, promised_here s i n (record { epoch = e; offset = offset; kept = works }))

pub acquire_lem : (r : ReplicaState) (e node promised : ℕ) (s : Store) (i n offset : ℕ) → ActsBy r e node promised [] s i n
    → MayPromise s i n (nothing_in e offset) × MayAcquire (promises s i n (nothing_in e offset)) i n e offset
acquire_lem r e node promised s i n offset acts = (acts.known, promised_here s i n (nothing_in e offset))

-- the store finds that the log ends where the process has learned it to
pub learned_all : (r : ReplicaState) (log : List Event) (learned offset : ℕ) → IsLogOf r (take learned log) → offset ≡ length log → offset ≡ r.world.events → IsLogOf r log
learned_all r log learned offset is end here = subst (IsLogOf r) whole is
  where
    whole : take learned log ≡ log
    whole =
        let size = length-take learned log in
        let count = is.counted in
        take_all learned log (omega (arith, size, count, end, here))

pub append_lem : (r : ReplicaState) (e node promised : ℕ) (works : List ℕ) (s : Store) (i n offset : ℕ) (silent : ℕ → Bool) (seen : ℕ → Option Lease) (old : Option (List ℕ)) (live : List ℕ) (events : List Event)
    → ActsBy r e node promised works s i n → AcceptsAppend s e offset silent seen → offset ≡ r.world.events → IsFallingBelow (r.world.setup.nodes + 1) live
    → ((log : List Event) → IsLogOf r log → Rebalances r.world.setup log old live events) → AreLeft e offset live (planned r.world.setup old live) (current s).number silent seen
    → LoseNothing (current s).log live (planned r.world.setup old live) (current s).number silent → MayAppend s e offset silent seen events
append_lem r e node promised works s i n offset silent seen old live events acts (now, end, accepts) here falls rebalances left whole =
    may_append_lem s old live events e offset silent seen (subst (λ x. Rebalances x (current s).log old live events) setup (rebalances (current s).log log))
    (subst (λ (x : Setup). IsFallingBelow (x.nodes + 1) live) setup falls) (subst (λ x. AreLeft e offset live (planned x old live) (current s).number silent seen) setup left)
    (subst (λ x. LoseNothing (current s).log live (planned x old live) (current s).number silent) setup whole)
  where
    setup : r.world.setup ≡ (current s).setup
    setup = acts.setup ∙ ap (λ f. (s.epochs f).setup) now

    log : IsLogOf r (current s).log
    log = learned_all r (current s).log (s.sessions i n).learned offset (subst (λ f. IsLogOf r (take (s.sessions i n).learned (s.epochs f).log)) now acts.learned) end here

-- What it knows of its session stays so.

-- the session that was written
written : (s : Store) (i n : ℕ) (new : Session) → (with_session s i n new).sessions i n ≡ new
written s i n new = by_test (i == i && n == n) (grind (arith, nat_tests))
  where
    by_test : (b : Bool) → b ≡ true → cond b new (s.sessions i n) ≡ new
    by_test true is = refl
    by_test false is = absurd (cc is)

-- what it has to know of a session
pub record Knows (r : ReplicaState) (e promised : ℕ) (works : List ℕ) (log : List Event) (session : Session) : Type 0 where
  pub epoch : session.epoch ≡ e
  pub learned : IsLogOf r (take session.learned log)
  pub reached : (p : Promised) → Contains session.promises p → IsReachedBy p e promised
  pub known : (x : Piece) → Contains session.work x → Contains works x.partition

-- what it knows of an epoch
pub record IsIn (r : ReplicaState) (node : ℕ) (x : Epoch) (i : ℕ) : Type 0 where
  pub setup : r.world.setup ≡ x.setup
  pub number : node ≡ x.number i

acts_with : (r : ReplicaState) (e node promised : ℕ) (works : List ℕ) (s : Store) (i n : ℕ) (new : Session) → IsIn r node (s.epochs e) i → Knows r e promised works (s.epochs e).log new → ActsBy r e node promised works (with_session s i n new) i n
acts_with r e node promised works s i n new is knows = record { epoch = still.epoch; setup = is.setup; number = is.number; learned = still.learned; reached = still.reached; known = still.known }
  where
    still : Knows r e promised works (s.epochs e).log ((with_session s i n new).sessions i n)
    still = subst (Knows r e promised works (s.epochs e).log) (sym (written s i n new)) knows

is_in : (r : ReplicaState) (e node promised : ℕ) (works : List ℕ) (s : Store) (i n : ℕ) → ActsBy r e node promised works s i n → IsIn r node (s.epochs e) i
is_in r e node promised works s i n acts = record { setup = acts.setup; number = acts.number }

pub begun_lem : (r : ReplicaState) (e node promised : ℕ) (works : List ℕ) (s : Store) (i n : ℕ) (x : Piece) → ActsBy r e node promised works s i n → Contains works x.partition → ActsBy r e node promised works (begins s i n x) i n
begun_lem r e node promised works s i n x acts has =
    let is = acts_with r e node promised works s i n (record (s.sessions i n) { work = (s.sessions i n).work ++ x ∷ [] }) (is_in r e node promised works s i n acts) (record {
      epoch = acts.epoch;
      learned = acts.learned;
      reached = acts.reached;
      known = λ y works. known y (Contains-push_cases (s.sessions i n).work x y works);
    }) in
    record { epoch = is.epoch; setup = is.setup; number = is.number; learned = is.learned; reached = is.reached; known = is.known }
  where
    known : (y : Piece) → HasWork s i n y ⊎ (x ≡ y) → Contains works y.partition
    known y (inl old) = acts.known y old
    known y (inr same) = subst (λ (z : Piece). Contains works z.partition) same has

pub promised_lem : (r : ReplicaState) (e node promised : ℕ) (works : List ℕ) (s : Store) (i n : ℕ) (p : Promised) → ActsBy r e node promised works s i n → IsReachedBy p e promised → ActsBy r e node promised works (promises s i n p) i n
promised_lem r e node promised works s i n p acts low =
    acts_with r e node promised works s i n (record (s.sessions i n) { promises = (s.sessions i n).promises ++ p ∷ [] }) (is_in r e node promised works s i n acts) (record {
      epoch = acts.epoch;
      learned = acts.learned;
      reached = λ q made. reached q (Contains-push_cases (s.sessions i n).promises p q made);
      known = acts.known;
    })
  where
    reached : (q : Promised) → Contains (s.sessions i n).promises q ⊎ (p ≡ q) → IsReachedBy q e promised
    reached q (inl old) = acts.reached q old
    reached q (inr same) = subst (λ (z : Promised). IsReachedBy z e promised) same low

pub stopped_lem : (r : ReplicaState) (e node promised : ℕ) (works less : List ℕ) (s : Store) (i n : ℕ) (left : List Piece) → ActsBy r e node promised works s i n → ((x : Piece) → Contains left x → Contains less x.partition)
    → ActsBy r e node promised less (stops s i n left) i n
stopped_lem r e node promised works less s i n left acts all =
    acts_with r e node promised less s i n (record (s.sessions i n) { work = left }) (is_in r e node promised works s i n acts) (record { epoch = acts.epoch; learned = acts.learned; reached = acts.reached; known = all })

pub learned_lem : (r later : ReplicaState) (e node promised : ℕ) (works : List ℕ) (s : Store) (i n offset : ℕ) → ActsBy r e node promised works s i n → later.world.setup ≡ r.world.setup → IsLogOf later (take offset (s.epochs e).log)
    → ActsBy later e node promised works (learns s i n e offset) i n
learned_lem r later e node promised works s i n offset acts same log =
    acts_with later e node promised works s i n (record (s.sessions i n) { epoch = e; learned = offset }) (record { setup = same ∙ acts.setup; number = acts.number }) (record { epoch = refl; learned = log; reached = acts.reached; known = acts.known })

pub followed_lem : (r later : ReplicaState) (e node promised next other : ℕ) (works : List ℕ) (s : Store) (i n offset : ℕ) → ActsBy r e node promised works s i n → e < next → later.world.setup ≡ (s.epochs next).setup → other ≡ (s.epochs next).number i
    → IsLogOf later (take offset (s.epochs next).log) → ActsBy later next other 0 works (learns s i n next offset) i n
followed_lem r later e node promised next other works s i n offset acts low setup number log =
    acts_with later next other 0 works s i n (record (s.sessions i n) { epoch = next; learned = offset }) (record { setup = setup; number = number })
    (record { epoch = refl; learned = log; reached = λ p made. inl (older p (acts.reached p made)); known = acts.known })
  where
    older : (p : Promised) → IsReachedBy p e promised → p.epoch < next
    older p (inl less) = omega (arith, less, low)
    older p (inr (here, within)) = omega (arith, here, low)

pub further_lem : (r : ReplicaState) (e node promised further : ℕ) (works : List ℕ) (s : Store) (i n : ℕ) → ActsBy r e node promised works s i n → promised ≤ further → ActsBy r e node further works s i n
further_lem r e node promised further works s i n acts more =
    record { epoch = acts.epoch; setup = acts.setup; number = acts.number; learned = acts.learned; reached = λ p made. on p (acts.reached p made); known = acts.known }
  where
    on : (p : Promised) → IsReachedBy p e promised → IsReachedBy p e further
    on p (inl less) = inl less
    on p (inr (here, low)) = inr (here, omega (arith, low, more))

pub more_lem : (r : ReplicaState) (e node promised : ℕ) (works more : List ℕ) (s : Store) (i n : ℕ) → ActsBy r e node promised works s i n → ((k : ℕ) → Contains works k → Contains more k) → ActsBy r e node promised more s i n
more_lem r e node promised works more s i n acts all =
    record { epoch = acts.epoch; setup = acts.setup; number = acts.number; learned = acts.learned; reached = acts.reached; known = λ x is. all x.partition (acts.known x is) }
