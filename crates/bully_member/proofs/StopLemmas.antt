-- What a step stops.
use Rattle.std.proofs.Common.{◌≡◌, ◌≢◌, ◌+◌, ◌<◌, ◌&&◌, ◌||◌, ◌==◌, ◌⊎◌, ◌∷◌, inl, inr, not, rules, ℕ, zero, suc, Bool, true, false, List, [], Option, Some, None, Contains, if◌then◌else◌, nat_lt, arith, slice_get, refl, sym, subst, ap, ◌∙◌}
use Rattle.std.proofs.lemmas.Bool.Decides.{nat_tests}
use Rattle.std.specs.Option.{option_map, option_map_or}
use Rattle.bully_agree.specs.Fencing.{Planned}
use Rattle.bully_base.proofs.NodeSetLemmas.{Contains-from}
use Rattle.bully_base.specs.NodeSet.{IsFallingBelow}
use Rattle.bully_base.specs.declared.node.Status.TheVariants.{Normal}
use Rattle.bully_member.specs.Activities.{begin_at, changed, changed_from, is_working, stop_at, works_at}
use Rattle.bully_member.specs.Due.{Sees, due, goes_on, goes_on_by, last_table, noted, table_ahead, table_by, token_now}
use Rattle.bully_member.specs.Member.{MemberState, SeesStable, are_no_nodes, is_closing, is_in_group, replica_of}
use Rattle.bully_member.specs.Stopping.{GoesOnWorking, IsTaken, StopsFor}
use Rattle.bully_member.specs.declared.values.Activity.{Activity}
use Rattle.bully_member.specs.declared.values.Ahead.{Ahead}
use Rattle.bully_member.specs.declared.values.Request.{Request}
use Rattle.bully_member.specs.declared.values.Sight.{Sight}
use Rattle.bully_member.specs.declared.values.Step.{Step}
use Rattle.bully_rebalance.proofs.OwnLemmas.{owned_now}
use Rattle.bully_rebalance.proofs.Preparing.{has_is_member}
use Rattle.bully_rebalance.specs.Leaving.{is_given, is_left}
use Rattle.bully_rebalance.specs.Owning.{owned_by, owned_in, owned_with, partitions_from, partitions_of, token_in}
use Rattle.bully_rebalance.specs.Rebalancing.{is_member, table_before}
use Rattle.bully_rebalance.specs.Stable.{IsStable}
use Rattle.bully_rebalance.specs.declared.holding.Owned.{Owned}
use Rattle.bully_replica.specs.LastPlan.{table_in}
use Rattle.bully_replica.specs.Replica.{ReplicaState, token_of}
use Rattle.bully_table.specs.Planning.{planned}
use Rattle.bully_world.specs.State.{world_of}
use Rattle.bully_world.specs.World.{vector}

-- What becomes of the work on one partition.

changed_one : (change : ℕ → Activity → Activity) (j k : ℕ) (works : List Activity) (a : Activity) → slice_get works k ≡ Some a → slice_get (changed_from change j works) k ≡ Some (change (j + k) a)
changed_one change j k [] a is = absurd (cc is)
changed_one change j zero (b ∷ works) a is = ap (λ i. Some (change i b)) (omega arith) ∙ ap (λ x. Some (change (j + 0) x)) (cc is)
changed_one change j (suc k) (b ∷ works) a is = changed_one change (suc j) k works a is ∙ ap (λ i. Some (change i a)) (omega arith)

working : (works : List Activity) (k : ℕ) → works_at works k ≡ true → slice_get works k ≡ Some Activity.Working
working works k is = by_one (slice_get works k) is
  where
    by_one : (o : Option Activity) → option_map_or is_working o false ≡ true → o ≡ Some Activity.Working
    by_one None is = absurd (cc is)
    by_one (Some Activity.Idle) is = absurd (cc is)
    by_one (Some Activity.Working) is = refl
    by_one (Some Activity.Stopping) is = absurd (cc is)

works_then : (works : List Activity) (k : ℕ) (a : Activity) → slice_get works k ≡ Some a → works_at works k ≡ is_working a
works_then works k a is = ap (λ (o : Option Activity). option_map_or is_working o false) is

stop_one : (works : List Activity) (table : Option (List ℕ)) (node k : ℕ) → works_at works k ≡ true → works_at (changed (stop_at table node) works) k ≡ false → is_left table node k ≡ false
stop_one works table node k was is = by_left (is_left table node k) refl
  where
    after : works_at (changed (stop_at table node) works) k ≡ is_working (stop_at table node k Activity.Working)
    after = works_then (changed (stop_at table node) works) k (stop_at table node k Activity.Working) (changed_one (stop_at table node) 0 k works Activity.Working (working works k was) ∙ ap (λ i. Some (stop_at table node i Activity.Working)) (omega arith))

    by_left : (b : Bool) → is_left table node k ≡ b → is_left table node k ≡ false
    by_left false same = same
    by_left true same = absurd (cc (is, after, same))

begin_one : (works : List Activity) (table : Option (List ℕ)) (node k : ℕ) → works_at works k ≡ true → works_at (changed (begin_at table node) works) k ≡ true
begin_one works table node k was =
    works_then (changed (begin_at table node) works) k (begin_at table node k Activity.Working) (changed_one (begin_at table node) 0 k works Activity.Working (working works k was) ∙ ap (λ i. Some (begin_at table node i Activity.Working)) (omega arith)) ∙ goes (is_left table node k)
  where
    goes : (b : Bool) → is_working (if b then Activity.Working else Activity.Working) ≡ true
    goes true = refl
    goes false = refl

-- A step stops nothing but what the table doesn't leave.

step_stops : (m : MemberState) (now k : ℕ) (is_stable : Bool) (step : Step) → works_at m.works k ≡ true → works_at (noted m now is_stable step).works k ≡ false → is_left (table_ahead m now is_stable) m.terms.node k ≡ false
step_stops m now k is_stable (Step.Ask request) was is = absurd (cc (was, by_request request is))
  where
    by_request : (r : Request) → works_at (noted m now is_stable (Step.Ask r)).works k ≡ false → works_at m.works k ≡ false
    by_request (Request.Acquire session offset) is = is
    by_request (Request.Renew session) is = is
    by_request (Request.Release session) is = is
    by_request Request.Snapshot is = is
    by_request (Request.Promise session offset) is = is
    by_request (Request.Append offset) is = is
    by_request (Request.RollOver offset) is = is
    by_request Request.Follow is = is
step_stops m now k is_stable (Step.Begin token) was is = absurd (cc (begin_one m.works (last_table m) m.terms.node k was, is))
step_stops m now k is_stable Step.Stop was is = stop_one m.works (table_ahead m now is_stable) m.terms.node k was is
step_stops m now k is_stable (Step.Wait at_most until reason) was is = absurd (cc (was, is))
step_stops m now k is_stable (Step.BackOff at_most reason) was is = absurd (cc (was, is))
step_stops m now k is_stable (Step.End ending) was is = absurd (cc (was, is))

reason_of : (goes stable by : Bool) (last coming : Option (List ℕ)) (node k : ℕ)
    → is_left (table_by (if not goes then Ahead.Nothing else if not stable then Ahead.Coming else if by then Ahead.Last else Ahead.Nothing) last coming) node k ≡ false
    → (goes ≡ false) ⊎ ((stable ≡ true) × (by ≡ false)) ⊎ ((stable ≡ true) × (is_left last node k ≡ false)) ⊎ ((stable ≡ false) × (is_left coming node k ≡ false))
reason_of false stable by last coming node k is = inl refl
reason_of true false by last coming node k is = inr (inr (inr (refl, is)))
reason_of true true true last coming node k is = inr (inr (inl (refl, is)))
reason_of true true false last coming node k is = inr (inl (refl, refl))

pub stops_lem : (m : MemberState) (now k : ℕ) (s : Sight) → Sees m now s → works_at m.works k ≡ true → works_at (noted m now s.is_stable (due m now s)).works k ≡ false → StopsFor m now s.is_stable k
stops_lem m now k s sees was is =
    reason_of (goes_on m now) s.is_stable (goes_on_by m (token_now m)) (last_table m) m.coming m.terms.node k (step_stops m now k s.is_stable (due m now s) was is)

-- In a stable group a node that the last plan gives a partition owns something.

given_owned : (table : List ℕ) (j node k : ℕ) → is_given table node k ≡ true → partitions_from j table node ≡ [] → ⊥
given_owned [] j node k given none = absurd (cc given)
given_owned (owner ∷ table) j node zero given none = absurd (cc (given, none))
given_owned (owner ∷ table) j node (suc k) given none = by_first (owner == node) (given_owned table (suc j) node k given) none
  where
    by_first : (b : Bool) → (partitions_from (suc j) table node ≡ [] → ⊥) → (if b then j ∷ partitions_from (suc j) table node else partitions_from (suc j) table node) ≡ [] → ⊥
    by_first true more none = absurd (cc none)
    by_first false more none = more none

some_owned : (token : ℕ) (partitions : List ℕ) → (partitions ≡ [] → ⊥) → option_map token_in (owned_with token partitions) ≡ Some token
some_owned token [] some = absurd (some refl)
some_owned token (k ∷ partitions) some = refl

token_left : (last : Option Planned) (node k : ℕ) → is_left (option_map table_in last) node k ≡ true → option_map token_in (owned_in last node) ≡ Some (token_of last)
token_left None node k left = absurd (cc left)
token_left (Some p) node k left = some_owned p.token (partitions_of p.table node) (given_owned p.table 0 node k left)

of_group : (bound node : ℕ) (nodes : List ℕ) → IsFallingBelow bound nodes → is_member nodes node ≡ true → (0 < node) × (node < bound)
of_group bound node [] falls is = absurd (cc is)
of_group bound node (n ∷ nodes) falls is = by_first (n == node) refl (of_group n node nodes falls.2) is
  where
    by_first : (b : Bool) → (n == node) ≡ b → (is_member nodes node ≡ true → (0 < node) × (node < n)) → b || is_member nodes node ≡ true → (0 < node) × (node < bound)
    by_first true same more h = let eq : n ≡ node = grind (arith, nat_tests, same) in (omega (arith, eq, falls.0), omega (arith, eq, falls.1))
    by_first false same more h = (low (more h), below (more h))
      where
        low : (0 < node) × (node < n) → 0 < node
        low has = has.0

        below : (0 < node) × (node < n) → node < bound
        below has = omega (arith, has.1, falls.1)

goes_by : (m : MemberState) (token : ℕ) → m.terms.is_cooperative ≡ true → token_now m ≡ Some token → goes_on_by m (token_now m) ≡ true
goes_by m token coop is = ap (goes_on_by m) is ∙ by_flag m.terms.is_cooperative coop
  where
    by_flag : (b : Bool) → b ≡ true → b || (token == m.token) ≡ true
    by_flag true is = refl
    by_flag false is = absurd (cc is)

stable_goes : (m : MemberState) (now k : ℕ) → GoesOnWorking m now → SeesStable m → is_left (last_table m) m.terms.node k ≡ true → goes_on_by m (token_now m) ≡ true
stable_goes m now k g stable left =
    goes_by m (token_of r.last) g.cooperative (ap (option_map token_in) owned ∙ token_left r.last m.terms.node k left)
  where
    r : ReplicaState
    r = replica_of m

    within : (0 < m.terms.node) × (m.terms.node < r.world.setup.nodes + 1)
    within = of_group (r.world.setup.nodes + 1) m.terms.node m.group g.foresees.falling g.admitted

    normal : (vector (world_of r.world) m.terms.node).status ≡ Normal
    normal = (stable.stable.nodes m.terms.node (within.0, omega (arith, within.1))).normal (Contains-from m.group m.terms.node (has_is_member m.group m.terms.node g.admitted))

    owned : owned_by r m.terms.node m.promised ≡ owned_in r.last m.terms.node
    owned = owned_now (vector (world_of r.world) m.terms.node).status r.last m.terms.node m.promised normal stable.behind

-- A table is coming.

some_nodes : (nodes : List ℕ) (node : ℕ) → is_member nodes node ≡ true → are_no_nodes nodes ≡ false
some_nodes [] node is = absurd (cc is)
some_nodes (n ∷ nodes) node is = refl

coming_is : (coop closes none : Bool) (table : List ℕ) → coop ≡ true → closes ≡ false → none ≡ false → (if not coop || closes || none then None else Some table) ≡ Some table
coming_is true false false table a b c = refl
coming_is true false true table a b c = absurd (cc c)
coming_is true true none table a b c = absurd (cc b)
coming_is false closes none table a b c = absurd (cc a)

pub moves_lem : (m : MemberState) (now k : ℕ) (s : Sight) → Sees m now s → GoesOnWorking m now → works_at m.works k ≡ true → works_at (noted m now s.is_stable (due m now s)).works k ≡ false → IsTaken m s.is_stable k
moves_lem m now k s sees g was is = by_reason (stops_lem m now k s sees was is)
  where
    table : List ℕ
    table = planned (replica_of m).world.setup (table_before (replica_of m).last m.terms.old) m.group

    coming : m.coming ≡ Some table
    coming = g.foresees.comes ∙ coming_is m.terms.is_cooperative (is_closing m) (are_no_nodes m.group) table g.cooperative g.open_end (some_nodes m.group m.terms.node g.admitted)

    by_left : (b : Bool) → is_left (last_table m) m.terms.node k ≡ b → s.is_stable ≡ true → goes_on_by m (token_now m) ≡ false → is_left (last_table m) m.terms.node k ≡ false
    by_left false left stable by = left
    by_left true left stable by = absurd (cc (by, stable_goes m now k g (sees.stable.0 stable) left))

    in_stable : (b : Bool) → s.is_stable ≡ b → b ≡ true → is_left (last_table m) m.terms.node k ≡ false → IsTaken m s.is_stable k
    in_stable true same is left = subst (λ b. IsTaken m b k) (sym same) left
    in_stable false same is left = absurd (cc is)

    by_reason : StopsFor m now s.is_stable k → IsTaken m s.is_stable k
    by_reason (inl ends) = absurd (cc (g.goes, ends))
    by_reason (inr (inl (stable, by))) = in_stable s.is_stable refl stable (by_left (is_left (last_table m) m.terms.node k) refl stable by)
    by_reason (inr (inr (inl (stable, left)))) = in_stable s.is_stable refl stable left
    by_reason (inr (inr (inr (unstable, left)))) = subst (λ b. IsTaken m b k) (sym unstable) (ap (λ (t : Option (List ℕ)). is_left t m.terms.node k) (sym coming) ∙ left)
