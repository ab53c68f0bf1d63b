-- What a member begins and asks for, it may by the rules of bully_work.
use Rattle.std.proofs.Common.{All, ◌≡◌, ◌≢◌, ◌+◌, ◌∷◌, ◌++◌, ◌&&◌, ◌||◌, ◌==◌, not, ◌⊎◌, inl, inr, rules, ℕ, zero, suc, Bool, true, false, List, [], Option, Some, None, Contains, if◌then◌else◌, arith, refl, sym, subst, ap, take, ◌∙◌}
use Rattle.std.proofs.lemmas.Bool.Decides.{nat_tests}
use Rattle.std.proofs.lemmas.List.Elements.{All-nil, All-cons, All-contains}
use Rattle.std.specs.List.{list_all}
use Rattle.std.specs.Option.{option_map}
use Rattle.bully_agree.proofs.PlanLemmas.{last_found, last_is}
use Rattle.bully_agree.specs.Fencing.{IsLast, IsLastPlan, Planned}
use Rattle.bully_base.proofs.NodeSetLemmas.{Contains-from, Has-from}
use Rattle.bully_base.specs.NodeSet.{IsFallingBelow}
use Rattle.bully_base.specs.Setup.{Setup}
use Rattle.bully_calls.specs.declared.event.Event.{Event}
use Rattle.bully_member.specs.Activities.{all_idle, busy, busy_from}
use Rattle.bully_member.specs.Due.{is_none_of}
use Rattle.bully_member.specs.Asking.{ActsBy, IsAsked, IsOther, IsOwn, Knows, MayBeSilent, Names, promise_of}
use Rattle.bully_member.specs.Keeping.{AcquiresAt, AppendsAt, AreReady, BeginsBy, ChangesAt, PromisesAt, RollsOverAt}
use Rattle.bully_member.specs.Member.{Foresees, IsAffected, MemberState, all_ready, are_no_nodes, coming_by, has_promised, here, is_affected, is_alone, is_closing, is_in_group, is_ready, is_ready_itself, live_of, replica_of, same_promise}
use Rattle.bully_member.specs.Rebalance.{rebalanced_nodes}
use Rattle.bully_member.specs.declared.values.Activity.{Activity}
use Rattle.bully_member.specs.declared.values.Ending.{Ending}
use Rattle.bully_member.specs.declared.values.Lease.{Lease}
use Rattle.bully_member.specs.declared.values.Promise.{Promise}
use Rattle.bully_replica.specs.Replica.{IsLogOf, ReplicaState}
use Rattle.bully_rebalance.proofs.ActLemmas.{append_lem as may_append, begin_lem as begins_piece, learned_all, promise_lem as may_promise, promised_here}
use Rattle.bully_rebalance.proofs.LeaveLemmas.{rolls_lem as may_roll}
use Rattle.bully_rebalance.proofs.Preparing.{has_is_member, is_member_has}
use Rattle.bully_rebalance.specs.Acting.{IsPiece}
use Rattle.bully_rebalance.specs.Leaving.{AreLeft, IsLeft, Leaves, LoseNothing, Loses, OwnNothing, is_given, is_left}
use Rattle.bully_rebalance.specs.Owning.{owned_by, token_in}
use Rattle.bully_rebalance.specs.Rebalancing.{Rebalances, is_member, table_before}
use Rattle.bully_rebalance.specs.declared.holding.Owned.{Owned}
use Rattle.bully_table.specs.Planning.{planned}
use Rattle.bully_work.proofs.StoreLemmas.{none_in}
use Rattle.bully_work.specs.Store.{AcceptsAppend, AcceptsRollOver, IsLive, IsOneToOne, Lease as Held, MayAcquire, MayAppend, MayBegin, MayPromise, MayRollOver, MayYield, NoneSilent, Piece, Store, current, nothing_in, promises}
use Rattle.bully_work.specs.Working.{GivesTo}

-- a token is that of what the node owns
told : (owned : Option Owned) (o : Owned) (token : ℕ) → owned ≡ Some o → option_map token_in owned ≡ Some token → o.token ≡ token
told None o token is same = absurd (cc is)
told (Some p) o token is same = cc (is, same)

pub begin_lem : (m : MemberState) (s : Store) (i n now token k : ℕ) (o : Owned) → ActsBy m s i n → IsLive s i n → BeginsBy m now token → owned_by (replica_of m) m.terms.node m.promised ≡ Some o → Contains o.partitions k
    → (x : Piece) × IsPiece x m.terms.epoch token k × MayBegin s i n x
begin_lem m s i n now token k o acts live begins is has =
    let (x, piece, may) = begins_piece (replica_of m) m.terms.epoch m.terms.node m.promised (busy m.works) s i n k o acts live is has in
    (x, record { epoch = piece.epoch; token = piece.token ∙ told (owned_by (replica_of m) m.terms.node m.promised) o token is begins.owner; partition = piece.partition }, may)

pub promise_lem : (m : MemberState) (s : Store) (i n offset : ℕ) → ActsBy m s i n → PromisesAt m offset → MayPromise s i n (promise_of m offset) × MayYield (promises s i n (promise_of m offset)) i n (promise_of m offset)
promise_lem m s i n offset acts asks = may_promise (replica_of m) m.terms.epoch m.terms.node m.promised (busy m.works) s i n offset acts

pub first_lem : (m : MemberState) (s : Store) (i n offset : ℕ) → AcquiresAt m offset → (s.sessions i n).work ≡ []
    → MayPromise s i n (nothing_in m.terms.epoch offset) × MayAcquire (promises s i n (nothing_in m.terms.epoch offset)) i n m.terms.epoch offset
first_lem m s i n offset asks idle = (
  λ x works. absurd (none_in x (subst (λ work. Contains work x) idle works)),
  promised_here s i n (nothing_in m.terms.epoch offset),
)

-- Tests that passed.

both : (a b : Bool) → a && b ≡ true → (a ≡ true) × (b ≡ true)
both true true is = (refl, refl)
both true false is = absurd (cc is)
both false b is = absurd (cc is)

same_number : (a b : ℕ) → a == b ≡ true → a ≡ b
same_number a b is = grind (arith, nat_tests, is)

other_number : (a b : ℕ) → (a ≡ b → ⊥) → a == b ≡ false
other_number a b apart = by_test (a == b) refl
  where
    by_test : (t : Bool) → a == b ≡ t → a == b ≡ false
    by_test true is = absurd (apart (same_number a b is))
    by_test false is = is

promises_same : (p q : Promise) → same_promise p q ≡ true → (p.epoch ≡ q.epoch) × (p.offset ≡ q.offset)
promises_same p q is = let (epoch, offset) = both (p.epoch == q.epoch) (p.offset == q.offset) is in (same_number p.epoch q.epoch epoch, same_number p.offset q.offset offset)

-- a test of all passes for each
of_all : {A : Type 0} (test : A → Bool) (xs : List A) (x : A) → list_all test xs ≡ true → Contains xs x → test x ≡ true
of_all test [] x all (i, low, is) = absurd (omega (arith, low))
of_all test (y ∷ ys) x all (zero, low, is) = subst (λ z. test z ≡ true) is (both (test y) (list_all test ys) all).0
of_all test (y ∷ ys) x all (suc i, low, is) = of_all test ys x (both (test y) (list_all test ys) all).1 (i, omega (arith, low), is)

-- a member of a list that has that
is_member_if : (ks : List ℕ) (k : ℕ) → Contains ks k → is_member ks k ≡ true
is_member_if ks k has = is_member_has ks k (Has-from ks k has)

contains_if : (ks : List ℕ) (k : ℕ) → is_member ks k ≡ true → Contains ks k
contains_if ks k is = Contains-from ks k (has_is_member ks k is)

-- the table gives what it leaves
gives_if : (table : List ℕ) (i k : ℕ) → is_given table i k ≡ true → GivesTo table k i
gives_if table i k is = search (rules, is)

-- the coming table, if it leaves anybody anything
coming_some : (coop closes none : Bool) (table : List ℕ) (o : Option (List ℕ)) (j k : ℕ) → o ≡ (if not coop || closes || none then None else Some table) → is_left o j k ≡ true → (coop ≡ true) × (none ≡ false) × (o ≡ Some table)
coming_some true true none table o j k is left = absurd (cc (subst (λ x. is_left x j k ≡ true) is left))
coming_some true false true table o j k is left = absurd (cc (subst (λ x. is_left x j k ≡ true) is left))
coming_some true false false table o j k is left = (refl, refl, is)
coming_some false closes none table o j k is left = absurd (cc (subst (λ x. is_left x j k ≡ true) is left))

some_nodes : (nodes : List ℕ) → are_no_nodes nodes ≡ false → nodes ≢ []
some_nodes [] is none = absurd (cc is)
some_nodes (i ∷ nodes) is none = absurd (cc none)

true_if : (b : Bool) → (b ≡ false → ⊥) → b ≡ true
true_if true _ = refl
true_if false never = absurd (never refl)

-- among whom a cooperative group is rebalanced
live_group : (ending : Option Ending) (coop : Bool) (group live : List ℕ) → ending ≡ None → coop ≡ true → (if not (is_none_of ending) then [] else if coop then group else live) ≡ group
live_group None true group live none is = refl
live_group None false group live none is = absurd (cc is)
live_group (Some ending) coop group live none is = absurd (cc none)

-- who may be silent
silent_for : (m : MemberState) (coop : Bool) (ending : Option Ending) (node : ℕ) → MayBeSilent m coop ending node → (coop ≡ true) × (ending ≡ None) × (Contains m.affected node → ⊥)
silent_for m true None node may = (refl, refl, may)
silent_for m true (Some ending) node may = absurd may
silent_for m false None node may = absurd may
silent_for m false (Some ending) node may = absurd may

-- the last plan of a log is the replica's
last_some : (events : List Event) (last : Option Planned) (p : Planned) → IsLast events last → IsLastPlan events p → last ≡ Some p
last_some events last p is last_is_it = sym (last_found events last is) ∙ last_is events p last_is_it

idle_busy : (works : List Activity) (from : ℕ) → all_idle works ≡ true → busy_from from works ≡ []
idle_busy [] from idle = refl
idle_busy (Activity.Idle ∷ works) from idle = idle_busy works (suc from) idle
idle_busy (Activity.Working ∷ works) from idle = absurd (cc idle)
idle_busy (Activity.Stopping ∷ works) from idle = absurd (cc idle)

-- an eager member keeps nothing, and calls nobody silent
pub eager_lem : (m : MemberState) (offset : ℕ) → m.terms.is_cooperative ≡ false → PromisesAt m offset → promise_of m offset ≡ nothing_in m.terms.epoch offset
eager_lem m offset eager asks = ap (λ (ks : List ℕ). record { epoch = m.terms.epoch; offset = offset; kept = ks }) (idle_busy m.works 0 (asks.idle eager))

never_silent : (coop : Bool) (m : MemberState) (ending : Option Ending) (node : ℕ) → coop ≡ false → MayBeSilent m coop ending node → ⊥
never_silent true m ending node eager spared = absurd (cc eager)
never_silent false m ending node eager spared = spared

pub asks_lem : (m : MemberState) (s : Store) (silent : ℕ → Bool) (seen : ℕ → Option Held) → m.terms.is_cooperative ≡ false → Names m s silent seen → NoneSilent silent
asks_lem m s silent seen eager names i = by_silent (silent i) refl
  where
    by_silent : (b : Bool) → silent i ≡ b → silent i ≡ false
    by_silent true is = absurd (never_silent m.terms.is_cooperative m m.ending ((current s).number i) eager (names.spared i is))
    by_silent false is = is

module _ (m : MemberState) (s : Store) (i n offset : ℕ) (silent : ℕ → Bool) (seen : ℕ → Option Held) (events : List Event) (acts : ActsBy m s i n) (accepts : AcceptsAppend s m.terms.epoch offset silent seen)
    (asks : AppendsAt m offset) (names : Names m s silent seen)
    (rebalances : (log : List Event) → IsLogOf (replica_of m) log → Rebalances (replica_of m).world.setup log (table_before (replica_of m).last m.terms.old) (rebalanced_nodes m) events) where
  abbrev r : ReplicaState
  r = replica_of m

  abbrev table : List ℕ
  table = planned r.world.setup (table_before r.last m.terms.old) (rebalanced_nodes m)

  log : IsLogOf r (current s).log
  log = learned_all r (current s).log (s.sessions i n).learned offset
      (subst (λ f. IsLogOf r (take (s.sessions i n).learned (s.epochs f).log)) accepts.0 acts.learned) accepts.1 asks.changes.end

  -- whom the table gives anything is rebalanced, if anybody is
  live : (j k : ℕ) → rebalanced_nodes m ≢ [] → GivesTo table k j → Contains (rebalanced_nodes m) j
  live j k some gives = let plan = (rebalances (current s).log log).plan some in plan.owners k j (subst (λ x. GivesTo x k j) (sym plan.table) gives)

  -- what the coming table leaves a node, the planned one gives it, and the node is rebalanced
  given : (j k : ℕ) → m.ending ≡ None → is_left m.coming j k ≡ true → GivesTo table k j × Contains (rebalanced_nodes m) j
  given j k none left = (gives, live j k (λ empty. some_nodes m.group is.1 (sym nodes ∙ empty)) gives)
    where
      coming : List ℕ
      coming = planned r.world.setup (table_before r.last m.terms.old) m.group

      is : (m.terms.is_cooperative ≡ true) × (are_no_nodes m.group ≡ false) × (m.coming ≡ Some coming)
      is = coming_some m.terms.is_cooperative (is_closing m) (are_no_nodes m.group) coming m.coming j k asks.changes.foresees.comes left

      nodes : rebalanced_nodes m ≡ m.group
      nodes = live_group m.ending m.terms.is_cooperative m.group (live_of m.leases) none is.0

      gives : GivesTo table k j
      gives = subst (λ x. GivesTo (planned r.world.setup (table_before r.last m.terms.old) x) k j) (sym nodes) (gives_if coming j k (subst (λ x. is_left x j k ≡ true) is.2 left))

  all_given : (j : ℕ) (ks : List ℕ) → m.ending ≡ None → list_all (is_left m.coming j) ks ≡ true → Leaves table j ks
  all_given j [] none left = All-nil (λ k. GivesTo table k j)
  all_given j (k ∷ ks) none left = let (first, rest) = both (is_left m.coming j k) (list_all (is_left m.coming j) ks) left in All-cons (λ k. GivesTo table k j) k ks (given j k none first).0 (all_given j ks none rest)

  some_live : (j : ℕ) (ks : List ℕ) → m.ending ≡ None → list_all (is_left m.coming j) ks ≡ true → ks ≢ [] → Contains (rebalanced_nodes m) j
  some_live j [] none left some = absurd (some refl)
  some_live j (k ∷ ks) none left some = (given j k none (both (is_left m.coming j k) (list_all (is_left m.coming j) ks) left).0).1

  whole : LoseNothing (current s).log (rebalanced_nodes m) table (current s).number silent
  whole j k p says last gives =
      let (coop, none, apart) = silent_for m m.terms.is_cooperative m.ending ((current s).number j) (names.spared j says) in
      let is_last = last_some (current s).log r.last p log.last last in
      let left = true_if (is_left m.coming ((current s).number j) k) (λ lost. apart ((asks.changes.foresees.affects ((current s).number j)).1
      (subst (λ b. IsAffected b r m.leases m.coming ((current s).number j)) (sym coop) (p, is_last, record { partition = k; had = gives; lost = lost })))) in
      let is_given = given ((current s).number j) k none left in
      record { rebalanced = is_given.1; left = is_given.0 }

  -- the holder of a lease that promises the end, and keeps what is left to it
  left_to : (node : ℕ) (held : Held) → m.ending ≡ None → (held.promised.epoch ≡ m.terms.epoch) × (held.promised.offset ≡ offset) → list_all (is_left m.coming node) held.promised.kept ≡ true → IsLeft m.terms.epoch offset (rebalanced_nodes m) table node held
  left_to node held none (epoch, at_end) left = record { epoch = epoch; idle = at_end; rebalanced = some_live node held.promised.kept none left; left = all_given node held.promised.kept none left }

  -- ... and keeps nothing
  empty_to : (node : ℕ) (held : Held) → (held.promised.epoch ≡ m.terms.epoch) × (held.promised.offset ≡ offset) → held.promised.kept ≡ [] → IsLeft m.terms.epoch offset (rebalanced_nodes m) table node held
  empty_to node held (epoch, at_end) empty = record {
    epoch = epoch;
    idle = at_end;
    rebalanced = λ some. absurd (some empty);
    left = subst (Leaves table node) (sym empty) (All-nil (λ k. GivesTo table k node));
  }

  -- its own lease
  own_promised : (held : Held) (node : ℕ) → IsOwn m node held → has_promised m ≡ true → ((held.promised.epoch ≡ m.terms.epoch) × (held.promised.offset ≡ offset)) × (held.promised.kept ≡ busy m.works)
  own_promised held node own promised =
      let (same, exact) = both (same_promise m.own (here m)) m.is_exact promised in
      let (epoch, at_end) = promises_same m.own (here m) same in
      ((own.epoch ∙ epoch, own.offset ∙ at_end ∙ sym asks.changes.end), own.kept exact)

  affects_itself : (node : ℕ) → m.terms.node ≡ node → Contains m.affected node → is_ready_itself m ≡ true → has_promised m ≡ true
  affects_itself node is has ready = by_test (is_affected m m.terms.node) (has_promised m) (is_member_if m.affected m.terms.node (subst (Contains m.affected) (sym is) has)) ready
    where
      by_test : (a b : Bool) → a ≡ true → not a || b ≡ true → b ≡ true
      by_test true b is ready = ready
      by_test false b is ready = absurd (cc is)

  left_by : (ending : Option Ending) → m.ending ≡ ending → (j : ℕ) (held : Held) → IsAsked m ending ((current s).number j) → Knows m ((current s).number j) held → AreReady m ending
      → IsLeft m.terms.epoch offset (rebalanced_nodes m) table ((current s).number j) held
  left_by (Some ending) is j held asked (inl own) (alone, promised, idle) =
      let (at_end, kept) = own_promised held ((current s).number j) own promised in
      empty_to ((current s).number j) held at_end (kept ∙ idle_busy m.works 0 idle)
  left_by (Some ending) is j held asked (inr other) (alone, promised, idle) = absurd (other.apart (same_number other.lease.node m.terms.node (of_all (λ (p : Lease). p.node == m.terms.node) m.leases other.lease (both (not m.has_unknown) _ alone).1 other.found)))
  left_by None is j held asked (inl own) ready =
      let itself = (both ((m.terms.is_cooperative || not m.has_unknown) && is_ready_itself m) _ ready).0 in
      let promised = affects_itself ((current s).number j) own.same asked (both (m.terms.is_cooperative || not m.has_unknown) (is_ready_itself m) itself).1 in
      let (at_end, kept) = own_promised held ((current s).number j) own promised in
      left_to ((current s).number j) held is at_end (subst (λ ks. list_all (is_left m.coming ((current s).number j)) ks ≡ true) (sym kept) (subst (λ x. list_all (is_left m.coming x) (busy m.works) ≡ true) own.same asks.changes.left))
  left_by None is j held asked (inr other) ready =
      let one = of_all (is_ready m) m.leases other.lease (both ((m.terms.is_cooperative || not m.has_unknown) && is_ready_itself m) _ ready).1 other.found in
      let (same, left) = both (same_promise other.lease.promise (here m)) (list_all (is_left m.coming other.lease.node) other.lease.kept) (other_ready (other.lease.node == m.terms.node) (is_affected m other.lease.node) _ (other_number other.lease.node m.terms.node other.apart) (is_member_if m.affected other.lease.node (subst (Contains m.affected) (sym other.same) asked)) one) in
      let (epoch, at_end) = promises_same other.lease.promise (here m) same in
      left_to ((current s).number j) held is (other.epoch ∙ epoch, other.offset ∙ at_end ∙ sym asks.changes.end)
      (subst (λ ks. list_all (is_left m.coming ((current s).number j)) ks ≡ true) (sym other.kept) (subst (λ x. list_all (is_left m.coming x) other.lease.kept ≡ true) other.same left))
    where
      other_ready : (a b c : Bool) → a ≡ false → b ≡ true → a || not b || c ≡ true → c ≡ true
      other_ready true b c a_is b_is ready = absurd (cc a_is)
      other_ready false true c a_is b_is ready = ready
      other_ready false false c a_is b_is ready = absurd (cc b_is)

  pub append_lem : MayAppend s m.terms.epoch offset silent seen events
  append_lem = may_append r m.terms.epoch m.terms.node m.promised (busy m.works) s i n offset silent seen (table_before r.last m.terms.old) (rebalanced_nodes m) events acts accepts asks.changes.end falls rebalances
      (λ j held says there. left_by m.ending refl j held (names.asked j held says there) (names.known j held says there) asks.changes.ready) whole
    where
      falls : IsFallingBelow (r.world.setup.nodes + 1) (rebalanced_nodes m)
      falls = by_cases m.ending m.terms.is_cooperative
        where
          by_cases : (ending : Option Ending) (coop : Bool) → IsFallingBelow (r.world.setup.nodes + 1) (if not (is_none_of ending) then [] else if coop then m.group else live_of m.leases)
          by_cases (Some ending) coop = tt
          by_cases None true = asks.changes.foresees.falling
          by_cases None false = asks.changes.foresees.live

pub rolls_lem : (m : MemberState) (s : Store) (i n offset : ℕ) (silent : ℕ → Bool) (next : ℕ → ℕ) → ActsBy m s i n → AcceptsRollOver s m.terms.epoch offset silent → RollsOverAt m offset
    → ((j : ℕ) → silent j ≡ true → MayBeSilent m m.terms.is_cooperative m.ending ((current s).number j)) → IsOneToOne next → MayRollOver s silent next
rolls_lem m s i n offset silent next acts accepts asks names one = may_roll s silent next none one
  where
    log : IsLogOf (replica_of m) (current s).log
    log = learned_all (replica_of m) (current s).log (s.sessions i n).learned offset
        (subst (λ f. IsLogOf (replica_of m) (take (s.sessions i n).learned (s.epochs f).log)) accepts.0 acts.learned) accepts.1 asks.changes.end

    no_coming : m.coming ≡ None
    no_coming = asks.changes.foresees.comes ∙ closing (not m.terms.is_cooperative) (is_closing m) _ _ asks.closing
      where
        closing : (a b c : Bool) (table : Option (List ℕ)) → b ≡ true → (if a || b || c then None else table) ≡ None
        closing true b c table is = refl
        closing false true c table is = refl
        closing false false c table is = absurd (cc is)

    none : OwnNothing (current s).log (current s).number silent
    none j k p says last gives =
        let (coop, going, apart) = silent_for m m.terms.is_cooperative m.ending ((current s).number j) (names j says) in
        let is_last = last_some (current s).log (replica_of m).last p log.last last in
        apart ((asks.changes.foresees.affects ((current s).number j)).1
        (subst (λ b. IsAffected b (replica_of m) m.leases m.coming ((current s).number j)) (sym coop) (p, is_last, record { partition = k; had = gives; lost = ap (λ (x : Option (List ℕ)). is_left x ((current s).number j) k) no_coming })))
