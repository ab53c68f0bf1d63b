-- There are members that have learned a rebalance, and rest in a stable group: the two of one view, after a snapshot by
-- which they were admitted, whichever of them the table gives the partition.
use Rattle.std.proofs.Common.{rules, ◌≡◌, ◌↔◌, ◌≤◌, ◌+◌, ◌++◌, ◌∷◌, [], ◌&&◌, ◌==◌, not, ℕ, zero, suc, Bool, true, false, if◌then◌else◌, nat_le, List, Option, Some, None, Contains, length, map, slice_get, arith, refl, sym, ap, subst, ◌∙◌}
use Rattle.std.proofs.lemmas.Bool.Decides.{nat_tests}
use Rattle.std.specs.Option.{option_map, option_map_or}
use Rattle.std.specs.Prelude.{IsTrue}
use Rattle.bully_agree.specs.Fencing.{Planned}
use Rattle.bully_base.specs.Setup.{IsNode, IsSetup}
use Rattle.bully_base.specs.declared.node.Status.TheVariants.{Down, Normal}
use Rattle.bully_base.specs.declared.node.Status.{Status}
use Rattle.bully_calls.specs.Pending.{Pending}
use Rattle.bully_calls.specs.Slot.{SlotCall, pending_of}
use Rattle.bully_calls.specs.declared.event.Event.{Event}
use Rattle.bully_member.specs.Activities.{any_stopping, works_at}
use Rattle.bully_member.specs.Due.{HasAllOf, MayGoOn, Sees, goes_on_by, noted, table_ahead, token_now}
use Rattle.bully_member.specs.Member.{AllAreDown, MemberState, offset_in}
use Rattle.bully_member.specs.Rebalance.{rebalanced_nodes}
use Rattle.bully_member.specs.Told.{last_change_then, to_snapshot}
use Rattle.bully_member.specs.declared.values.Activity.{Activity}
use Rattle.bully_member.specs.declared.values.Lease.{Lease}
use Rattle.bully_member.specs.declared.values.Request.{Request}
use Rattle.bully_member.specs.declared.values.Sight.{Sight}
use Rattle.bully_member.specs.declared.values.Step.{Step}
use Rattle.bully_rebalance.proofs.PartitionLemmas.{partitions_exact}
use Rattle.bully_rebalance.proofs.Rebalanced.{becomes_stable_lem}
use Rattle.bully_rebalance.proofs.SizeLemmas.{rebalancing_few}
use Rattle.bully_rebalance.specs.Leaving.{is_given, is_left}
use Rattle.bully_rebalance.specs.Owning.{owned_with, partitions_of, token_in}
use Rattle.bully_rebalance.specs.Rebalancing.{PlansAnew, Rebalances, rebalancing}
use Rattle.bully_rebalance.specs.Stable.{IsStable}
use Rattle.bully_replica.specs.Replica.{IsLogOf, ReplicaState, first_replica}
use Rattle.bully_replica.specs.RowReplica.{RowReplicaState}
use Rattle.bully_round.proofs.RoundLemmas.{is_stable, owns_by, stable_for}
use Rattle.bully_round.proofs.SomePassage.{nodes}
use Rattle.bully_round.proofs.SomeTurns.{header, idle, lease, of_two, session, setup}
use Rattle.bully_round.proofs.SomeView.{all_leases, one}
use Rattle.bully_round.proofs.TurnLemmas.{given_left, same_num, short, table_if}
use Rattle.bully_round.specs.Group.{Appends, HasLearnedOf, IsAtRest}
use Rattle.bully_round.specs.Progress.{IsCalm, to_begin, to_do, unless}
use Rattle.bully_rows.specs.declared.header.Version.{Version}
use Rattle.bully_run.proofs.CallLemmas.{nothing_learned}
use Rattle.bully_work.specs.Working.{GivesTo}
use Rattle.bully_world.specs.Lawful.{IsLawful}
use Rattle.bully_world.specs.State.{StoredNode, node_state_of, world_in, world_of}
use Rattle.bully_world.specs.World.{NodeState, World, vector}

-- Each world is that of a replica.

slot_of : Pending → SlotCall
slot_of c = record { tag = record { caller = 0; generation = if c.is_live then 0 else 1 }; call = c.call; phase = c.phase; table = c.table }

pub stored : NodeState → StoredNode
stored s = record { vector = record { vector = s.vector; room = 0 }; point = s.point; slot = record { content = option_map slot_of s.pending; room = 0 }; generation = 0 }

back_live : (b : Bool) → ((if b then 0 else 1) == 0) ≡ b
back_live true = refl
back_live false = refl

back_pending : (p : Option Pending) → option_map (pending_of 0) (option_map slot_of p) ≡ p
unfolding slot_of
back_pending None = refl
back_pending (Some c) = ap (λ b. Some (record c { is_live = b })) (back_live c.is_live)

back_state : (s : NodeState) → node_state_of (stored s) ≡ s
unfolding stored
back_state s = ap (λ (p : Option Pending). record s { pending = p }) (back_pending s.pending)

back_states : (xs : List NodeState) → map node_state_of (map stored xs) ≡ xs
back_states [] = refl
back_states (s ∷ xs) = ap (λ (x : NodeState). x ∷ map node_state_of (map stored xs)) (back_state s) ∙ ap (λ (ys : List NodeState). s ∷ ys) (back_states xs)

back_world : (w : World) → world_in (map stored w.states) ≡ w
back_world w = ap (λ (xs : List NodeState). record w { states = xs }) (back_states w.states)

-- Small facts.

room_for : (n : ℕ) → n ≤ 22 → nat_le (n + 22) 100 ≡ true
room_for n low = grind (arith, nat_tests, low)

token_by : (b : Bool) (token : ℕ) (ks : List ℕ) (t : ℕ) → option_map token_in (if b then owned_with token ks else None) ≡ Some t → (token ≡ t) × (k : ℕ) × Contains ks k
token_by false token ks t is = absurd (cc is)
token_by true token [] t is = absurd (cc is)
token_by true token (k ∷ ks) t is = (cc is, k, (0, omega arith, refl))

abbrev pub works_of : Bool → List Activity
works_of works = (if works then Activity.Working else Activity.Idle) ∷ []

works_free : (b : Bool) → any_stopping (works_of b) ≡ false
works_free true = refl
works_free false = refl

works_if : (b : Bool) (k : ℕ) → works_at (works_of b) k ≡ true → (b ≡ true) × (k ≡ 0)
works_if true zero is = (refl, refl)
works_if true (suc k) is = absurd (cc is)
works_if false zero is = absurd (cc is)
works_if false (suc k) is = absurd (cc is)

works_then : (b : Bool) → b ≡ true → works_at (works_of b) 0 ≡ true
works_then true is = refl
works_then false is = absurd (cc is)

given_is : (table : List ℕ) (i k : ℕ) → is_given table i k ≡ true → GivesTo table k i
given_is table i k is = by_owner (slice_get table k) refl is
  where
    by_owner : (o : Option ℕ) → slice_get table k ≡ o → option_map_or (λ owner. owner == i) o false ≡ true → slice_get table k ≡ Some i
    by_owner None there is = absurd (cc is)
    by_owner (Some owner) there is = let same : owner ≡ i = grind (arith, nat_tests, is) in there ∙ ap Some same

none_to_begin : (m : MemberState) (s : Sight) (token : Option ℕ) → s.may_go_on ≡ true → s.has_all ≡ true → ((t : ℕ) → token ≡ Some t → m.token ≡ t) → to_begin m s token ≡ 0
none_to_begin m s None may all same = refl
none_to_begin m s (Some t) may all same = by_tests s.may_go_on s.has_all (t == m.token) may all (let is = same t refl in grind (arith, nat_tests, is))
  where
    by_tests : (a b c : Bool) → a ≡ true → b ≡ true → c ≡ true → unless (a && (b && c)) ≡ 0
    by_tests true true true x y z = refl
    by_tests true true false x y z = absurd (cc z)
    by_tests true false c x y z = absurd (cc y)
    by_tests false b c x y z = absurd (cc x)

-- what it sees then: whether it has all that its node owns
abbrev pub sight : (has_all : Bool) → Sight
sight has_all = record { is_stable = true; are_down = false; may_go_on = true; has_all = has_all }

module _ (more : List Event) (rebalances : Rebalances setup [] None nodes more) where
  some_nodes : nodes ≡ [] → ⊥
  some_nodes none = absurd (cc none)

  pub new : PlansAnew setup [] None nodes more
  new = rebalances.plan some_nodes

  abbrev pub replica : ReplicaState
  replica = record { version = Version.One; world = record { setup = setup; events = length more; states = map stored rebalances.world.states }; last = Some new.plan }

  pub log_of : IsLogOf replica ([] ++ more)
  log_of = record { answers = rebalances.answers; lawful = subst (λ (w : World). IsLawful setup ([] ++ more) rebalances.answers w) (sym (back_world rebalances.world)) rebalances.lawful; counted = refl; last = new.last }

  abbrev pub token : ℕ
  token = new.plan.token

  -- what it has learned by the rows of the rebalance
  abbrev pub all_rows : RowReplicaState
  all_rows = record { replica = replica; rows = length more }

  -- it was woken, has asked for a snapshot, and learned those rows
  abbrev pub reading : ℕ → MemberState
  reading node = record (noted (to_snapshot (one node)) 1 false (Step.Ask Request.Snapshot)) { learned = all_rows; needs_snapshot = true }

  -- it has read that snapshot, and then begun to work or not
  abbrev pub n : (node : ℕ) → (works : Bool) → MemberState
  n node works = record (one node) {
    group = nodes;
    learned = all_rows;
    last_change = last_change_then (reading node) 1 all_leases false;
    works = works_of works;
    token = if works then token else 0;
    is_exact = not works;
    is_asked_exact = not works;
  }

  module _ (node : ℕ) (is : IsNode setup node) (among : Contains nodes node) where
    -- whether the table gives it the partition
    abbrev pub gives : Bool
    gives = is_given new.plan.table node 0

    given_first : (k : ℕ) → GivesTo new.plan.table k node → (k ≡ 0) × (gives ≡ true)
    given_first k at =
        let low = short new.plan.table k node at in
        let size = new.fewest.covers in
        let first : k ≡ 0 = omega (arith, low, size) in
        (first, given_left new.plan.table node 0 (subst (λ j. GivesTo new.plan.table j node) first at))

    module _ (works : Bool) where
      pub has : HasLearnedOf (one 2) [] more (n node works)
      has = record {
        setup = refl;
        learned = log_of;
        same = refl;
        node = is;
        among = among;
        promised = omega arith;
        own = omega arith;
        others = others;
        goes_on = ap not (room_for (length more) rebalances.few);
      }
        where
          others : (p : Lease) → Contains all_leases p → offset_in 1 p.promise ≤ 0
          others = of_two (λ p. offset_in 1 p.promise ≤ 0) (lease 1 1) (lease 2 1) (omega arith) (omega arith)

      pub stable : IsStable replica nodes 0
      stable = is_stable (one 2) (n node works) [] more 0 rebalances has (omega arith)

      -- not all nodes are Down
      not_down : AllAreDown (n node works) → ⊥
      not_down down = apart (vector (world_of replica.world) node).status ((stable.nodes node is).normal among) ((down.nodes node is).down none)
        where
          none : Contains [] node → ⊥
          none (i, low, at) = omega (arith, low)

          apart : (s : Status) → s ≡ Normal → s ≡ Down → ⊥
          apart s one other = absurd (cc (one, other))

      -- Its node has a token exactly if the table gives it the partition.

      token_given : (t : ℕ) → token_now (n node works) ≡ Some t → (token ≡ t) × (gives ≡ true)
      token_given t at =
          let (same, k, in_it) = token_by _ token (partitions_of new.plan.table node) t at in
          (same, (given_first k ((partitions_exact new.plan.table node k).0 in_it)).1)

      pub token_is : gives ≡ true → token_now (n node works) ≡ Some token
      token_is given =
          let at : GivesTo new.plan.table 0 node = given_is new.plan.table node 0 given in
          let owns = owns_by (one 2) (n node works) [] more rebalances has 0 (subst (λ (t : List ℕ). GivesTo t 0 node) new.table at) in
          let some : token_now (n node works) ≡ Some owns.0.token = ap (option_map token_in) owns.1 in
          some ∙ ap Some (sym (token_given owns.0.token some).0)

      pub calm : IsCalm (n node works) 1
      calm = record {
        session = session node;
        since = 0;
        live = refl;
        early = refl;
        going = refl;
        within = refl;
        answered = refl;
        rested = refl;
        free = works_free works;
        quiet = refl;
        learned = record { events = [] ++ more; log = log_of };
        sized = λ p at. let same : new.plan ≡ p = cc at in let size = new.fewest.covers in let long : length p.table ≡ length new.plan.table = ap (λ (x : Planned). length x.table) (sym same) in omega (arith, size, long);
      }

      sees_by : (has_all : Bool) → MayGoOn (n node works) (table_ahead (n node works) 1 true) → (IsTrue has_all ↔ HasAllOf (n node works) (Some new.plan.table)) → Sees (n node works) 1 (sight has_all)
      sees_by has_all may all = record {
        stable = ((λ so. stable_for (one 2) (n node works) [] more rebalances has), (λ so. search rules));
        down = ((λ so. absurd (cc so)), (λ down. absurd (not_down down)));
        stays = ((λ so. may), (λ so. search rules));
        all = all;
      }

      -- It works on the partition exactly if the table gives it that.
      module _ (owns : gives ≡ works) where
        may : MayGoOn (n node works) (table_ahead (n node works) 1 true)
        may k busy = by_place (works_if works k busy)
          where
            by_place : (works ≡ true) × (k ≡ 0) → is_left (table_ahead (n node works) 1 true) node k ≡ true
            by_place (working, first) =
                let at : GivesTo new.plan.table k node = subst (λ j. GivesTo new.plan.table j node) (sym first) (given_is new.plan.table node 0 (owns ∙ working)) in
                let same : (if works then token else 0) ≡ token = ap (λ b. if b then token else 0) working in
                let by : goes_on_by (n node works) (token_now (n node works)) ≡ true = ap (goes_on_by (n node works)) (token_is (owns ∙ working)) ∙ (ap (λ t. token == t) same ∙ same_num token) in
                ap (λ b. is_left (table_if true true b (Some new.plan.table) None) node k) by ∙ given_left new.plan.table node k at

        all : HasAllOf (n node works) (Some new.plan.table)
        all k at = let (first, given) = given_first k at in subst (λ j. works_at (works_of works) j ≡ true) (sym first) (works_then works (sym owns ∙ given))

        pub sees : Sees (n node works) 1 (sight true)
        sees = sees_by true may ((λ so. all), (λ so. search rules))

        same_token : (t : ℕ) → token_now (n node works) ≡ Some t → (n node works).token ≡ t
        same_token t at = let (same, given) = token_given t at in ap (λ b. if b then token else 0) (sym owns ∙ given) ∙ same

        pub none : to_do (n node works) (sight true) ≡ 0
        none = let begin = none_to_begin (n node works) (sight true) (token_now (n node works)) refl refl same_token in omega (arith, begin)

        rests : IsAtRest (n node works) 1 true
        rests = record { sight = sight true; calm = calm; sees = sees; stable = refl; none = none }

    -- it doesn't work on the partition yet that the table gives it
    pub sees_idle : gives ≡ true → Sees (n node false) 1 (sight false)
    sees_idle given = sees_by false false (λ k busy. absurd (idle k busy)) ((λ so. absurd (cc so)), (λ all. absurd (cc (all 0 (given_is new.plan.table node 0 given)))))

-- the events are those of a rebalance of the empty log
abbrev pub events : List Event
events = rebalancing setup (world_of (first_replica header).world) None nodes

few : length events ≤ 22
few = rebalancing_few setup (world_of (first_replica header).world) None nodes (omega arith, omega arith, (omega arith, omega arith, tt))

pub within : IsSetup setup
within = record { nodes = search rules; partitions = search rules; events = search rules; weights = search rules }

pub appends : Rebalances setup [] None nodes events
appends = becomes_stable_lem setup [] (nothing_learned header).log.answers (world_of (first_replica header).world) None nodes
    within (nothing_learned header).log.lawful tt (omega arith, omega arith, (omega arith, omega arith, tt)) (let low = few in omega (arith, low))

pub node_of : (i : ℕ) → Contains nodes i → IsNode setup i
node_of = of_two (IsNode setup) 2 1 (omega arith, omega arith) (omega arith, omega arith)

pub some_rest_lem : (w : MemberState) × (log more : List Event) × Appends w log more
    × ((i : ℕ) → Contains (rebalanced_nodes w) i → (n : MemberState) × (now : ℕ) × (n.terms.node ≡ i) × HasLearnedOf w log more n × IsAtRest n now true)
some_rest_lem = (
  one 2,
  [],
  events,
  appends,
  λ i among.
      let is = node_of i among in
      let works = gives events appends i is among in
      (n events appends i works, 1, refl, has events appends i is among works, rests events appends i is among works refl),
)
