-- After the rebalance.
use Rattle.std.proofs.Common.{◌≡◌, ◌≢◌, ◌↔◌, ◌<◌, ◌≤◌, ◌*◌, ◌++◌, if◌then◌else◌, cond, ℕ, suc, Bool, true, false, List, [], ◌∷◌, Option, Some, None, Contains, max, fold, filter, length, map, get_or, arith, refl, sym, ap, subst, ◌∙◌}
use Rattle.std.proofs.lemmas.Option.{slice_get-get_or}
use Rattle.bully_agree.specs.Fencing.{Planned}
use Rattle.bully_base.specs.Setup.{Setup}
use Rattle.bully_calls.specs.declared.event.Event.{Event}
use Rattle.bully_member.specs.Activities.{works_at}
use Rattle.bully_member.specs.Due.{Sees, due}
use Rattle.bully_member.specs.Member.{MemberState, SeesStable, heeded, heeds_promises, is_in_group, most_promised, offset_in, replica_of}
use Rattle.bully_member.specs.Rebalance.{rebalanced_nodes}
use Rattle.bully_member.specs.Told.{to_snapshot}
use Rattle.bully_member.specs.declared.values.Lease.{Lease}
use Rattle.bully_member.specs.declared.values.Sight.{Sight}
use Rattle.bully_rebalance.proofs.OwnLemmas.{same_last}
use Rattle.bully_rebalance.proofs.PartitionLemmas.{partitions_exact}
use Rattle.bully_rebalance.proofs.RebalancedLemmas.{stable_lem}
use Rattle.bully_rebalance.proofs.StableWorks.{stable_owned_lem}
use Rattle.bully_rebalance.specs.Owning.{owned_by, owned_in, owned_with, partitions_of}
use Rattle.bully_rebalance.specs.Rebalancing.{PlansAnew, Rebalances, table_before}
use Rattle.bully_rebalance.specs.Stable.{IsServed, IsStable}
use Rattle.bully_rebalance.specs.declared.holding.Owned.{Owned}
use Rattle.bully_replica.specs.Replica.{token_of}
use Rattle.bully_round.proofs.DueLemmas.{rests_lem}
use Rattle.bully_round.proofs.OwnLemmas.{exactly_lem}
use Rattle.bully_round.specs.Group.{Appends, HasLearnedOf, IsRound, Passage, Passes, all_turns, ready_in, table_of, turns_in}
use Rattle.bully_round.proofs.TurnLemmas.{bounded_lem, true_is}
use Rattle.bully_round.specs.Progress.{IsCalm, Owns, step_at_rest, to_do}
use Rattle.bully_table.specs.Planning.{planned}
use Rattle.bully_work.specs.Working.{GivesTo}

-- What it goes by is before the plan.

most_within : (test : Lease → Bool) (epoch bound : ℕ) (leases : List Lease) (start : ℕ) → start ≤ bound → ((p : Lease) → Contains leases p → offset_in epoch p.promise ≤ bound)
    → fold (λ most (p : Lease). max most (offset_in epoch p.promise)) start (filter test leases) ≤ bound
most_within test epoch bound [] start low all = low
most_within test epoch bound (p ∷ ps) start low all = by_test (test p) (λ first within. most_within test epoch bound ps first within rest)
  where
    rest : (q : Lease) → Contains ps q → offset_in epoch q.promise ≤ bound
    rest q has = all q (suc has.0, omega (arith, has.1), has.2)

    both_low : (a b : ℕ) → a ≤ bound → b ≤ bound → max a b ≤ bound
    both_low a b one other = grind (arith, one, other)

    by_test : (b : Bool) → ((first : ℕ) → first ≤ bound → fold (λ most (p : Lease). max most (offset_in epoch p.promise)) first (filter test ps) ≤ bound)
        → fold (λ most (p : Lease). max most (offset_in epoch p.promise)) start (cond b (p ∷ filter test ps) (filter test ps)) ≤ bound
    by_test true more = more (max start (offset_in epoch p.promise)) (both_low start (offset_in epoch p.promise) low (all p (0, omega arith, refl)))
    by_test false more = more start low

heeded_within : (n : MemberState) (bound : ℕ) → offset_in n.terms.epoch n.own ≤ bound → ((p : Lease) → Contains n.leases p → offset_in n.terms.epoch p.promise ≤ bound) → heeded n ≤ bound
heeded_within n bound own others = by_test (heeds_promises n)
  where
    by_test : (b : Bool) → (if b then most_promised n else offset_in n.terms.epoch n.own) ≤ bound
    by_test true = most_within (λ p. is_in_group n p.node) n.terms.epoch bound n.leases (offset_in n.terms.epoch n.own) own others
    by_test false = own

served_behind : (last : Option Planned) (live : List ℕ) (offset : ℕ) → IsServed last live offset → offset < token_of last
served_behind None live offset served = absurd served
served_behind (Some p) live offset served = served.0

-- what the writer appended rebalances the member's replica
of_writer : (w n : MemberState) (log more : List Event) → Appends w log more → HasLearnedOf w log more n → Rebalances (replica_of n).world.setup log (table_before (replica_of w).last w.terms.old) (rebalanced_nodes w) more
of_writer w n log more appends has = subst (λ (s : Setup). Rebalances s log (table_before (replica_of w).last w.terms.old) (rebalanced_nodes w) more) (sym has.setup) appends

pub is_stable : (w n : MemberState) (log more : List Event) (offset : ℕ) → Appends w log more → HasLearnedOf w log more n → offset ≤ length log → IsStable (replica_of n) (rebalanced_nodes w) offset
is_stable w n log more offset appends has low = stable_lem (replica_of n) log more (table_before (replica_of w).last w.terms.old) (rebalanced_nodes w) offset (of_writer w n log more appends has) has.learned low

some_in : (nodes : List ℕ) (i : ℕ) → Contains nodes i → nodes ≢ []
some_in [] i has none = absurd (omega (arith, has.1))
some_in (n ∷ nodes) i has none = absurd (cc none)

pub stable_for : (w n : MemberState) (log more : List Event) → Appends w log more → HasLearnedOf w log more n → SeesStable n
stable_for w n log more appends has = record {
  stable = subst (λ nodes. IsStable (replica_of n) nodes (heeded n)) (sym has.same) (is_stable w n log more (heeded n) appends has (heeded_within n (length log) has.own has.others));
  behind = served_behind (replica_of n).last (rebalanced_nodes w) n.promised ((is_stable w n log more n.promised appends has has.promised).plan (some_in (rebalanced_nodes w) n.terms.node has.among));
  goes_on = has.goes_on;
}

-- What its node owns.

given_owned : (token : ℕ) (ks : List ℕ) (k : ℕ) → Contains ks k → (o : Owned) × (owned_with token ks ≡ Some o) × Contains o.partitions k
given_owned token [] k (i, low, is) = absurd (omega (arith, low))
given_owned token (j ∷ ks) k has = (record { token = token; partitions = j ∷ ks }, refl, has)

owned_given : (token : ℕ) (ks : List ℕ) (k : ℕ) (o : Owned) → owned_with token ks ≡ Some o → Contains o.partitions k → Contains ks k
owned_given token [] k o is has = absurd (cc is)
owned_given token (j ∷ ks) k o is has = subst (λ (xs : List ℕ). Contains xs k) (sym (same (record { token = token; partitions = j ∷ ks }) o is)) has
  where
    same : (a b : Owned) → Some a ≡ Some b → a.partitions ≡ b.partitions
    same a b is = let one : a ≡ b = cc is in ap (λ (x : Owned). x.partitions) one

module _ (w n : MemberState) (log more : List Event) (appends : Appends w log more) (has : HasLearnedOf w log more n) where
  plan : PlansAnew (replica_of n).world.setup log (table_before (replica_of w).last w.terms.old) (rebalanced_nodes w) more
  plan = (of_writer w n log more appends has).plan (some_in (rebalanced_nodes w) n.terms.node has.among)

  last : (replica_of n).last ≡ Some plan.plan
  last = same_last (replica_of n) (log ++ more) plan.plan has.learned plan.last

  table : plan.plan.table ≡ table_of w
  table = plan.table ∙ ap (λ (s : Setup). planned s (table_before (replica_of w).last w.terms.old) (rebalanced_nodes w)) has.setup

  owned : owned_by (replica_of n) n.terms.node n.promised ≡ owned_with plan.plan.token (partitions_of plan.plan.table n.terms.node)
  owned = stable_owned_lem (replica_of n) (rebalanced_nodes w) n.promised n.terms.node (is_stable w n log more n.promised appends has has.promised) has.node has.among
      ∙ ap (λ (l : Option Planned). owned_in l n.terms.node) last

  owns_given : (k : ℕ) → Owns n k → GivesTo plan.plan.table k n.terms.node
  owns_given k (o, is, in_it) = (partitions_exact plan.plan.table n.terms.node k).0 (owned_given plan.plan.token (partitions_of plan.plan.table n.terms.node) k o (sym owned ∙ is) in_it)

  given_owns : (k : ℕ) → GivesTo plan.plan.table k n.terms.node → Owns n k
  given_owns k gives = let (o, is, in_it) = given_owned plan.plan.token (partitions_of plan.plan.table n.terms.node) k ((partitions_exact plan.plan.table n.terms.node k).1 gives) in (o, owned ∙ is, in_it)

  pub owns_by : (k : ℕ) → GivesTo (table_of w) k n.terms.node → Owns n k
  owns_by k gives = given_owns k (subst (λ (t : List ℕ). GivesTo t k n.terms.node) (sym table) gives)

  pub works_as : (now k : ℕ) (s : Sight) → IsCalm n now → Sees n now s → to_do n s ≡ 0 → works_at n.works k ≡ true ↔ GivesTo (table_of w) k n.terms.node
  works_as now k s calm sees none =
      let stable : s.is_stable ≡ true = true_is s.is_stable (sees.stable.1 (stable_for w n log more appends has)) in
      let exact = exactly_lem n now s calm sees stable none k in
      (λ works. subst (λ (t : List ℕ). GivesTo t k n.terms.node) table (owns_given k (exact.0 works)), λ gives. exact.1 (given_owns k (subst (λ (t : List ℕ). GivesTo t k n.terms.node) (sym table) gives)))

pub works_lem : (w n : MemberState) (log more : List Event) (now k : ℕ) (s : Sight) → Appends w log more → HasLearnedOf w log more n → IsCalm n now → Sees n now s → to_do n s ≡ 0
    → works_at n.works k ≡ true ↔ GivesTo (table_of w) k n.terms.node
works_lem w n log more now k s appends has calm sees none = works_as w n log more appends has now k s calm sees none

-- The whole round.

turns_of : (x : Passage) (w : MemberState) (log more : List Event) → Passes w log more x → turns_in x ≤ 12
turns_of x w log more passes =
    let one = bounded_lem x.start x.promised x.first passes.promises in
    let two = bounded_lem (to_snapshot x.promised) x.ready x.second passes.looks in
    let three = bounded_lem (to_snapshot x.ready) x.last x.third passes.goes_on in
    omega (arith, one, two, three)

all_turns_of : (xs : List Passage) (w : MemberState) (log more : List Event) → ((x : Passage) → Contains xs x → Passes w log more x) → all_turns xs ≤ 12 * length xs
all_turns_of [] w log more passes = omega arith
all_turns_of (x ∷ xs) w log more passes =
    let first = turns_of x w log more (passes x (0, omega arith, refl)) in
    let rest = all_turns_of xs w log more (λ y has. passes y (suc has.0, omega (arith, has.1), has.2)) in
    omega (arith, first, rest)

pub turns_lem : (xs : List Passage) (w : MemberState) (log more : List Event) → IsRound xs w log more → all_turns xs ≤ 12 * length xs
turns_lem xs w log more round = all_turns_of xs w log more round.passes

pub waits_lem : (xs : List Passage) (w : MemberState) (log more : List Event) (x : Passage) (now : ℕ) (s : Sight) → IsRound xs w log more → Contains xs x → IsCalm x.last now → Sees x.last now s → to_do x.last s ≡ 0 → due x.last now s ≡ step_at_rest x.last now true
waits_lem xs w log more x now s round has calm sees none =
    rests_lem x.last now s calm sees none ∙ ap (step_at_rest x.last now) (true_is s.is_stable (sees.stable.1 (stable_for w x.last log more round.appends (round.passes x has).learned)))

pub ends_stable_lem : (xs : List Passage) (w : MemberState) (log more : List Event) (x : Passage) → IsRound xs w log more → Contains xs x → SeesStable x.last
ends_stable_lem xs w log more x round has = stable_for w x.last log more round.appends (round.passes x has).learned

pub works_in_round : (xs : List Passage) (w : MemberState) (log more : List Event) (x : Passage) (k : ℕ) → IsRound xs w log more → Contains xs x → works_at x.last.works k ≡ true ↔ GivesTo (table_of w) k x.last.terms.node
works_in_round xs w log more x k round has = let p = round.passes x has in works_lem w x.last log more p.now k p.sight round.appends p.learned p.calm p.sees p.none

one_owner : (table : List ℕ) (k i j : ℕ) → GivesTo table k i → GivesTo table k j → i ≡ j
one_owner table k i j one other = cc (one, other)

pub one_works_lem : (xs : List Passage) (w : MemberState) (log more : List Event) (x y : Passage) (k : ℕ) → IsRound xs w log more → Contains xs x → Contains xs y → works_at x.last.works k ≡ true → works_at y.last.works k ≡ true → x.last.terms.node ≡ y.last.terms.node
one_works_lem xs w log more x y k round one other first second = one_owner (table_of w) k x.last.terms.node y.last.terms.node ((works_in_round xs w log more x k round one).0 first) ((works_in_round xs w log more y k round other).0 second)

first_node : (m : MemberState) (xs : List Passage) → Contains (map ready_in xs) m → (x : Passage) × Contains xs x
first_node m [] has = absurd (omega (arith, has.1))
first_node m (x ∷ xs) has = (x, (0, omega arith, refl))

pub some_works_lem : (xs : List Passage) (w : MemberState) (log more : List Event) (k : ℕ) → IsRound xs w log more → k < (replica_of w).world.setup.partitions → (x : Passage) × Contains xs x × (works_at x.last.works k ≡ true)
some_works_lem xs w log more k round low =
    let some = first_node w xs round.writer in
    let has = (round.passes some.0 some.1).learned in
    let p = plan w some.0.last log more round.appends has in
    let size : length p.plan.table ≡ (replica_of w).world.setup.partitions = p.fewest.covers ∙ ap (λ (s : Setup). s.partitions) has.setup in
    let gives : GivesTo p.plan.table k (get_or p.plan.table k 0) = slice_get-get_or p.plan.table k 0 (omega (arith, size, low)) in
    let (x, there, is) = round.all (get_or p.plan.table k 0) (p.owners k (get_or p.plan.table k 0) gives) in
    let at : GivesTo (table_of w) k x.last.terms.node = subst (λ i. GivesTo (table_of w) k i) (sym is) (subst (λ (t : List ℕ). GivesTo t k (get_or p.plan.table k 0)) (table w some.0.last log more round.appends has) gives) in
    (x, there, (works_in_round xs w log more x k round there).1 at)
