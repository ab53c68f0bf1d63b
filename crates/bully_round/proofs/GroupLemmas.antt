-- Members of one view get on.
use Rattle.std.proofs.Common.{◌≡◌, ◌≢◌, ◌<◌, ◌≤◌, ◌+◌, ◌&&◌, ◌||◌, ◌==◌, not, if◌then◌else◌, cond, ℕ, zero, suc, Bool, true, false, List, [], ◌∷◌, Option, Contains, nat_lt, min, arith, refl, sym, ap, subst, ◌∙◌}
use Rattle.std.proofs.lemmas.Bool.Decides.{nat_tests}
use Rattle.std.proofs.lemmas.List.Recursion.{is_count_by}
use Rattle.std.specs.Prelude.{count_by}
use Rattle.std.specs.List.{list_all}
use Rattle.bully_base.specs.declared.TheConstants.{NODES_MAX}
use Rattle.bully_member.proofs.KeepLemmas.{left_all, sights_same}
use Rattle.bully_member.specs.Activities.{busy}
use Rattle.bully_member.specs.Due.{Sees, due, goes_on, goes_on_by, is_newcomer, last_table, token_now}
use Rattle.bully_member.specs.Member.{MemberState, above, all_ready, has_promised, here, is_affected, is_ready, is_ready_itself, replica_of, same_promise}
use Rattle.bully_member.specs.Times.{turn_left}
use Rattle.bully_member.specs.declared.values.Lease.{Lease}
use Rattle.bully_member.specs.declared.values.Promise.{Promise}
use Rattle.bully_member.specs.declared.values.Sight.{Sight}
use Rattle.bully_member.specs.declared.values.Step.{Step}
use Rattle.bully_rebalance.specs.Leaving.{is_left}
use Rattle.bully_round.proofs.DueLemmas.{rests_lem}
use Rattle.bully_round.proofs.TurnLemmas.{is_true, table_if}
use Rattle.bully_round.specs.Group.{HaveOneView, IsAtRest, IsLeaseOf}
use Rattle.bully_round.specs.Progress.{change_of, step_at_rest, to_begin, to_do_seen, to_do_then, to_promise, unless}

-- What a member at rest in an unstable group has done.

may_of : (b : Bool) (n : ℕ) → unless b + n ≡ 0 → (b ≡ true) × (n ≡ 0)
may_of true n is = (refl, omega (arith, is))
may_of false n is = absurd (omega (arith, is))

seen_of : (b : Bool) (n : ℕ) → (if b then 3 else n) ≡ 0 → n ≡ 0
seen_of true n is = absurd (omega (arith, is))
seen_of false n is = is

promise_of : (st : Bool) (n k : ℕ) → st ≡ false → (if st then n else k) ≡ 0 → k ≡ 0
promise_of true n k stable is = absurd (cc stable)
promise_of false n k stable is = is

ready_of : (new affected may has : Bool) → new ≡ false → unless (new || (not affected || (may && has))) ≡ 0 → not affected || has ≡ true
ready_of true affected may has old is = absurd (cc old)
ready_of false false may has old is = refl
ready_of false true true true old is = refl
ready_of false true true false old is = absurd (omega (arith, is))
ready_of false true false has old is = absurd (omega (arith, is))

to_coming : (goes by : Bool) (last coming : Option (List ℕ)) (node k : ℕ) → is_left (table_if goes false by last coming) node k ≡ true → is_left coming node k ≡ true
to_coming true by last coming node k left = left
to_coming false by last coming node k left = absurd (cc left)

module _ (n : MemberState) (now : ℕ) (rest : IsAtRest n now false) (old : is_newcomer n ≡ false) where
  parts : (rest.sight.may_go_on ≡ true) × (to_do_then n rest.sight ≡ 0)
  parts = may_of rest.sight.may_go_on (to_do_then n rest.sight) rest.none

  pub ready_itself : is_ready_itself n ≡ true
  ready_itself = ready_of (is_newcomer n) (is_affected n n.terms.node) rest.sight.may_go_on (has_promised n) old
      (promise_of rest.sight.is_stable (to_begin n rest.sight (token_now n)) (to_promise n rest.sight) rest.stable (seen_of n.needs_snapshot (to_do_seen n rest.sight) parts.1))

  pub is_left_all : list_all (is_left n.coming n.terms.node) (busy n.works) ≡ true
  is_left_all = left_all n.works 0 (is_left n.coming n.terms.node) (λ k works. subst (λ i. is_left n.coming n.terms.node i ≡ true) (omega arith)
      (to_coming (goes_on n now) (goes_on_by n (token_now n)) (last_table n) n.coming n.terms.node k
      (subst (λ st. is_left (table_if (goes_on n now) st (goes_on_by n (token_now n)) (last_table n) n.coming) n.terms.node k ≡ true) rest.stable (rest.sees.stays.0 (is_true rest.sight.may_go_on parts.0) k works)))) rest.calm.free

-- So all are ready.

ready_by : (own affected promised left : Bool) → (affected ≡ true → (promised ≡ true) × (left ≡ true)) → own || (not affected) || (promised && left) ≡ true
ready_by true affected promised left do_so = refl
ready_by false false promised left do_so = refl
ready_by false true promised left do_so = let (one, other) = do_so refl in both_true promised left one other
  where
    both_true : (a b : Bool) → a ≡ true → b ≡ true → a && b ≡ true
    both_true true true one other = refl
    both_true true false one other = absurd (cc other)
    both_true false b one other = absurd (cc one)

pub has_of : (affected has : Bool) → not affected || has ≡ true → affected ≡ true → has ≡ true
has_of true has is affected = is
has_of false has is affected = absurd (cc affected)

pub two_of : (a b : Bool) → a && b ≡ true → (a ≡ true) × (b ≡ true)
two_of true true is = (refl, refl)
two_of true false is = absurd (cc is)
two_of false b is = absurd (cc is)

all_by : (test : Lease → Bool) (leases : List Lease) → ((p : Lease) → Contains leases p → test p ≡ true) → list_all test leases ≡ true
all_by test [] passes = refl
all_by test (p ∷ ps) passes = by_test (test p) (passes p (0, omega arith, refl)) (all_by test ps (λ q has. passes q (suc has.0, omega (arith, has.1), has.2)))
  where
    by_test : (b : Bool) → b ≡ true → list_all test ps ≡ true → b && list_all test ps ≡ true
    by_test true is more = more
    by_test false is more = absurd (cc is)

all_parts : (coop unknown itself others : Bool) → unknown ≡ false → itself ≡ true → others ≡ true → (coop || not unknown) && itself && others ≡ true
all_parts true unknown true true none a b = refl
all_parts false false true true none a b = refl
all_parts false true true true none a b = absurd (cc none)
all_parts coop unknown true false none a b = absurd (cc b)
all_parts coop unknown false others none a b = absurd (cc a)

module _ (ms : List MemberState) (view : HaveOneView ms) (m : MemberState) (has : Contains ms m) where
  lease_ready : (p : Lease) → Contains m.leases p → is_ready m p ≡ true
  lease_ready p there = by_owner (view.leases m p has there)
    where
      by_owner : (n : MemberState) × Contains ms n × IsLeaseOf n p → is_ready m p ≡ true
      by_owner (n, one, of) = ready_by (p.node == m.terms.node) (is_affected m p.node) (same_promise p.promise (here m)) (list_all (is_left m.coming p.node) p.kept) (λ affected.
          let alike = view.alike m n has one in
          let rest = view.rest n one in
          let too : is_affected n n.terms.node ≡ true = sym (alike.affected p.node ∙ ap (is_affected n) of.node) ∙ affected in
          let promised : has_promised n ≡ true = has_of (is_affected n n.terms.node) (has_promised n) (ready_itself n rest.0 rest.1 (view.old n one)) too in
          let (same, exact) = two_of (same_promise n.own (here n)) n.is_exact promised in
          let at : same_promise p.promise (here m) ≡ same_promise n.own (here n) =
          ap (λ (x : Promise). same_promise x (here m)) of.promise ∙ ap (λ e. same_promise n.own (record { epoch = e; offset = (replica_of m).world.events })) alike.epoch
          ∙ ap (λ o. same_promise n.own (record { epoch = n.terms.epoch; offset = o })) alike.offset in
          let left : list_all (is_left m.coming p.node) p.kept ≡ list_all (is_left n.coming n.terms.node) (busy n.works) =
          ap (λ (t : Option (List ℕ)). list_all (is_left t p.node) p.kept) alike.coming ∙ ap (λ i. list_all (is_left n.coming i) p.kept) of.node ∙ ap (list_all (is_left n.coming n.terms.node)) (of.kept exact) in
          (at ∙ same, left ∙ is_left_all n rest.0 rest.1 (view.old n one)))

  pub all_are_ready : all_ready m ≡ true
  all_are_ready = let rest = view.rest m has in all_parts m.terms.is_cooperative m.has_unknown (is_ready_itself m) (list_all (is_ready m) m.leases) (view.known m has) (ready_itself m rest.0 rest.1 (view.old m has)) (all_by (is_ready m) m.leases lease_ready)

pub ready_lem : (ms : List MemberState) (m : MemberState) → HaveOneView ms → Contains ms m → all_ready m ≡ true
ready_lem ms m view has = all_are_ready ms view m has

step_else : (b : Bool) (x y : Step) → b ≡ false → (if b then x else y) ≡ y
step_else true x y is = absurd (cc is)
step_else false x y is = refl

pub changes_lem : (ms : List MemberState) (m : MemberState) (now : ℕ) (s : Sight) → HaveOneView ms → Contains ms m → IsAtRest m now false → Sees m now s → turn_left (above m) m.ttl now m.last_change.at ≡ 0 → due m now s ≡ change_of m
changes_lem ms m now s view has rest sees come =
    ap (due m now) (sights_same m now s rest.sight sees rest.sees)
    ∙ rests_lem m now rest.sight rest.calm rest.sees rest.none
    ∙ ap (step_at_rest m now) rest.stable
    ∙ step_else (is_newcomer m) _ _ (view.old m has)
    ∙ step_else (nat_lt 0 (turn_left (above m) m.ttl now m.last_change.at)) _ _ (ap (nat_lt 0) come)
    ∙ step_else (not (all_ready m)) _ _ (ap not (ready_lem ms m view has))

-- The highest one's turn has come.

highest : (n : MemberState) (ms : List MemberState) → (m : MemberState) × Contains (n ∷ ms) m × ((o : MemberState) → Contains (n ∷ ms) o → o.terms.node ≤ m.terms.node)
highest n [] = (n, (0, omega arith, refl), λ o has. only o has)
  where
    only : (o : MemberState) → Contains (n ∷ []) o → o.terms.node ≤ n.terms.node
    only o (zero, low, is) = let same : n ≡ o = cc is in let equal : n.terms.node ≡ o.terms.node = ap (λ (x : MemberState). x.terms.node) same in omega (arith, equal)
    only o (suc i, low, is) = absurd (omega (arith, low))
highest n (k ∷ ms) = by_rest (highest k ms)
  where
    later : (o : MemberState) → Contains (k ∷ ms) o → Contains (n ∷ k ∷ ms) o
    later o (i, low, is) = (suc i, omega (arith, low), is)

    by_rest : (m : MemberState) × Contains (k ∷ ms) m × ((o : MemberState) → Contains (k ∷ ms) o → o.terms.node ≤ m.terms.node) → (m : MemberState) × Contains (n ∷ k ∷ ms) m × ((o : MemberState) → Contains (n ∷ k ∷ ms) o → o.terms.node ≤ m.terms.node)
    by_rest (m, has, most) = by_test (nat_lt m.terms.node n.terms.node) refl
      where
        first : n.terms.node ≤ m.terms.node → (o : MemberState) → Contains (n ∷ k ∷ ms) o → o.terms.node ≤ m.terms.node
        first low o (zero, low_i, is) = let same : n ≡ o = cc is in let equal : n.terms.node ≡ o.terms.node = ap (λ (x : MemberState). x.terms.node) same in omega (arith, equal, low)
        first low o (suc i, low_i, is) = most o (i, omega (arith, low_i), is)

        above_all : m.terms.node < n.terms.node → (o : MemberState) → Contains (n ∷ k ∷ ms) o → o.terms.node ≤ n.terms.node
        above_all more o (zero, low_i, is) = let same : n ≡ o = cc is in let equal : n.terms.node ≡ o.terms.node = ap (λ (x : MemberState). x.terms.node) same in omega (arith, equal)
        above_all more o (suc i, low_i, is) = let low = most o (i, omega (arith, low_i), is) in omega (arith, low, more)

        by_test : (b : Bool) → nat_lt m.terms.node n.terms.node ≡ b → (m : MemberState) × Contains (n ∷ k ∷ ms) m × ((o : MemberState) → Contains (n ∷ k ∷ ms) o → o.terms.node ≤ m.terms.node)
        by_test true more = (n, (0, omega arith, refl), above_all (grind (arith, nat_tests, more)))
        by_test false low = (m, later m has, first (grind (arith, nat_tests, low)))

counted : (Lease → Bool) → List Lease → ℕ
counted test [] = 0
counted test (p ∷ ps) = cond (test p) (1 + counted test ps) (counted test ps)

none_counted : (test : Lease → Bool) (leases : List Lease) → ((p : Lease) → Contains leases p → test p ≡ false) → counted test leases ≡ 0
unfolding counted
none_counted test [] none = refl
none_counted test (p ∷ ps) none = ap (λ b. cond b (1 + counted test ps) (counted test ps)) (none p (0, omega arith, refl)) ∙ none_counted test ps (λ q has. none q (suc has.0, omega (arith, has.1), has.2))

is_counted : (test : Lease → Bool) (leases : List Lease) → counted test leases ≡ count_by test leases
unfolding counted
is_counted test leases = is_count_by (counted test) test refl (λ p ps. refl) leases

some_counted : (test : Lease → Bool) (leases : List Lease) (p : Lease) → Contains leases p → test p ≡ true → 0 < counted test leases
unfolding counted
some_counted test [] p (i, low, at) passes = absurd (omega (arith, low))
some_counted test (q ∷ qs) p (zero, low, at) passes =
    let same : q ≡ p = cc at in
    subst (λ b. 0 < cond b (1 + counted test qs) (counted test qs)) (sym (ap test same ∙ passes)) (omega arith)
some_counted test (q ∷ qs) p (suc i, low, at) passes = by_test (test q) (some_counted test qs p (i, omega (arith, low), at) passes)
  where
    by_test : (b : Bool) → 0 < counted test qs → 0 < cond b (1 + counted test qs) (counted test qs)
    by_test true some = omega arith
    by_test false some = some

pub some_above : (m : MemberState) (p : Lease) → Contains m.leases p → m.terms.node < p.node → 0 < above m
some_above m p has higher =
    let some : 0 < counted (λ (q : Lease). nat_lt m.terms.node q.node) m.leases = some_counted (λ (q : Lease). nat_lt m.terms.node q.node) m.leases p has (grind (arith, nat_tests, higher)) in
    let same : counted (λ (q : Lease). nat_lt m.terms.node q.node) m.leases ≡ count_by (λ (q : Lease). nat_lt m.terms.node q.node) m.leases = is_counted (λ (q : Lease). nat_lt m.terms.node q.node) m.leases in
    at_most _ (subst (λ n. 0 < n) same some)
  where
    at_most : (n : ℕ) → 0 < n → 0 < min n NODES_MAX
    at_most n some = omega (arith, some)

none_above : (m : MemberState) → ((p : Lease) → Contains m.leases p → p.node ≤ m.terms.node) → above m ≡ 0
none_above m low = ap (λ k. min k NODES_MAX) (sym (is_counted (λ p. nat_lt m.terms.node p.node) m.leases) ∙ none_counted (λ p. nat_lt m.terms.node p.node) m.leases (λ p has. not_below m.terms.node p.node (low p has)))
  where
    not_below : (a b : ℕ) → b ≤ a → nat_lt a b ≡ false
    not_below a b is = grind (arith, nat_tests, is)

turn_come : (count ttl now at : ℕ) → count ≡ 0 → turn_left count ttl now at ≡ 0
turn_come count ttl now at is = ap (λ k. turn_left k ttl now at) is ∙ none ttl now at
  where
    none : (ttl now at : ℕ) → turn_left 0 ttl now at ≡ 0
    none ttl now at = omega arith

pub somebody_lem : (ms : List MemberState) → HaveOneView ms → ms ≢ [] → (m : MemberState) × Contains ms m × ((now : ℕ) (s : Sight) → IsAtRest m now false → Sees m now s → due m now s ≡ change_of m)
somebody_lem [] view some = absurd (some refl)
somebody_lem (n ∷ ms) view some = by_highest (highest n ms)
  where
    by_highest : (m : MemberState) × Contains (n ∷ ms) m × ((o : MemberState) → Contains (n ∷ ms) o → o.terms.node ≤ m.terms.node)
        → (m : MemberState) × Contains (n ∷ ms) m × ((now : ℕ) (s : Sight) → IsAtRest m now false → Sees m now s → due m now s ≡ change_of m)
    by_highest (m, has, most) = (m, has, λ now s rest sees. changes_lem (n ∷ ms) m now s view has rest sees (turn_come (above m) m.ttl now m.last_change.at (none_above m low)))
      where
        low : (p : Lease) → Contains m.leases p → p.node ≤ m.terms.node
        low p there = let (o, one, of) = view.leases m p has there in let at = most o one in let same = of.node in omega (arith, at, same)
