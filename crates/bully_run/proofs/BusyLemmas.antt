-- On which partitions a member works.
use Rattle.std.proofs.Common.{◌≡◌, ◌+◌, ◌==◌, ◌∷◌, [], ℕ, zero, suc, Bool, true, false, not, List, Option, Contains, if◌then◌else◌, arith, refl, subst}
use Rattle.std.proofs.lemmas.Bool.Decides.{nat_tests}
use Rattle.bully_member.specs.Activities.{all_idle, begin_at, busy, busy_from, changed, changed_from, ended_at, is_idle, stop_at, works_at}
use Rattle.bully_member.specs.declared.values.Activity.{Activity}
use Rattle.bully_rebalance.specs.Leaving.{is_left}

-- whether it works on partition k, also if it was asked to stop that
abbrev pub busy_at : List Activity → ℕ → Bool
busy_at [] k = false
busy_at (a ∷ works) zero = not (is_idle a)
busy_at (a ∷ works) (suc k) = busy_at works k

first_has : (x : ℕ) (xs : List ℕ) → Contains (x ∷ xs) x
first_has x xs = (0, omega arith, refl)

next_has : (y x : ℕ) (xs : List ℕ) → Contains xs x → Contains (y ∷ xs) x
next_has y x xs (i, low, is) = (suc i, omega (arith, low), is)

busy_has : (works : List Activity) (from k : ℕ) → busy_at works k ≡ true → Contains (busy_from from works) (from + k)
busy_has [] from k is = absurd (cc is)
busy_has (Activity.Idle ∷ works) from zero is = absurd (cc is)
busy_has (Activity.Working ∷ works) from zero is = subst (Contains (from ∷ busy_from (suc from) works)) (omega arith) (first_has from (busy_from (suc from) works))
busy_has (Activity.Stopping ∷ works) from zero is = subst (Contains (from ∷ busy_from (suc from) works)) (omega arith) (first_has from (busy_from (suc from) works))
busy_has (Activity.Idle ∷ works) from (suc k) is = subst (Contains (busy_from (suc from) works)) (omega arith) (busy_has works (suc from) k is)
busy_has (Activity.Working ∷ works) from (suc k) is = next_has from (from + suc k) (busy_from (suc from) works) (subst (Contains (busy_from (suc from) works)) (omega arith) (busy_has works (suc from) k is))
busy_has (Activity.Stopping ∷ works) from (suc k) is = next_has from (from + suc k) (busy_from (suc from) works) (subst (Contains (busy_from (suc from) works)) (omega arith) (busy_has works (suc from) k is))

pub busy_contains : (works : List Activity) (k : ℕ) → busy_at works k ≡ true → Contains (busy works) k
busy_contains works k is = subst (Contains (busy works)) (omega arith) (busy_has works 0 k is)

pub working_busy : (works : List Activity) (k : ℕ) → works_at works k ≡ true → busy_at works k ≡ true
working_busy [] k is = absurd (cc is)
working_busy (Activity.Idle ∷ works) zero is = absurd (cc is)
working_busy (Activity.Working ∷ works) zero is = refl
working_busy (Activity.Stopping ∷ works) zero is = absurd (cc is)
working_busy (a ∷ works) (suc k) is = working_busy works k is

pub idle_works : (works : List Activity) (k : ℕ) → all_idle works ≡ true → busy_at works k ≡ true → ⊥
idle_works [] k idle is = absurd (cc is)
idle_works (Activity.Idle ∷ works) zero idle is = absurd (cc is)
idle_works (Activity.Idle ∷ works) (suc k) idle is = idle_works works k idle is
idle_works (Activity.Working ∷ works) k idle is = absurd (cc idle)
idle_works (Activity.Stopping ∷ works) k idle is = absurd (cc idle)

busy_if : (a : Activity) → not (is_idle a) ≡ true → is_idle a ≡ false
busy_if Activity.Idle is = absurd (cc is)
busy_if Activity.Working is = refl
busy_if Activity.Stopping is = refl

busy_then : (a : Activity) → is_idle a ≡ false → not (is_idle a) ≡ true
busy_then Activity.Idle is = absurd (cc is)
busy_then Activity.Working is = refl
busy_then Activity.Stopping is = refl

-- what it works on stays so, if the change leaves that
busy_changed : (change : ℕ → Activity → Activity) (from k : ℕ) (works : List Activity) → ((a : Activity) → is_idle a ≡ false → is_idle (change (from + k) a) ≡ false) → busy_at works k ≡ true → busy_at (changed_from change from works) k ≡ true
busy_changed change from k [] keeps is = absurd (cc is)
busy_changed change from zero (a ∷ works) keeps is = busy_then (change from a) (subst (λ i. is_idle (change i a) ≡ false) (omega arith) (keeps a (busy_if a is)))
busy_changed change from (suc k) (a ∷ works) keeps is = busy_changed change (suc from) k works (λ b some. subst (λ i. is_idle (change i b) ≡ false) (omega arith) (keeps b some)) is

pub begun_busy : (table : Option (List ℕ)) (node k : ℕ) (works : List Activity) → busy_at works k ≡ true → busy_at (changed (begin_at table node) works) k ≡ true
begun_busy table node k works is = busy_changed (begin_at table node) 0 k works (λ a some. by_test (is_left table node (0 + k)) a some) is
  where
    by_test : (b : Bool) (a : Activity) → is_idle a ≡ false → is_idle (if b then Activity.Working else a) ≡ false
    by_test true a some = refl
    by_test false a some = some

pub stopping_busy : (table : Option (List ℕ)) (node k : ℕ) (works : List Activity) → busy_at works k ≡ true → busy_at (changed (stop_at table node) works) k ≡ true
stopping_busy table node k works is = busy_changed (stop_at table node) 0 k works on is
  where
    by_test : (b : Bool) → is_idle (if b then Activity.Working else Activity.Stopping) ≡ false
    by_test true = refl
    by_test false = refl

    on : (a : Activity) → is_idle a ≡ false → is_idle (stop_at table node (0 + k) a) ≡ false
    on Activity.Idle some = absurd (cc some)
    on Activity.Working some = by_test (is_left table node (0 + k))
    on Activity.Stopping some = refl

pub ended_busy : (ended k : ℕ) (works : List Activity) → (k ≡ ended → ⊥) → busy_at works k ≡ true → busy_at (changed (ended_at ended) works) k ≡ true
ended_busy ended k works apart is = busy_changed (ended_at ended) 0 k works (λ a some. by_test (0 + k == ended) refl a some) is
  where
    by_test : (b : Bool) → (0 + k == ended) ≡ b → (a : Activity) → is_idle a ≡ false → is_idle (if b then Activity.Idle else a) ≡ false
    by_test true same a some = absurd (apart (grind (arith, nat_tests, same)))
    by_test false same a some = some
