-- What stays in the planned table, and who gets the rest.
use Rattle.std.proofs.Common.{◌≡◌, ℕ, zero, suc, ◌+◌, ◌-◌, ◌<◌, ◌≤◌, min, ◌⊎◌, inl, inr, Bool, true, false, cond, List, [], ◌∷◌, length, take, arith, refl, ◌∙◌, Contains, add-one, ◌&&◌, not, nat_lt, nat_le, ◌==◌}
use Rattle.std.proofs.lemmas.Bool.Decides.{nat_tests}
use Rattle.std.proofs.lemmas.Grind.{common_steps}
use Rattle.bully_base.specs.NodeSet.{IsFallingBelow, below_node}
use Rattle.bully_table.specs.Balance.{count_of}
use Rattle.bully_table.specs.Planning.{owner_at, places_where, stays, room, rooms_below, taker, member_where}
use Rattle.bully_table.proofs.BalanceLemmas.{any_decides, earlier, later}
use Rattle.bully_table.proofs.BalanceSteps.{falling-within}
use Rattle.bully_table.proofs.TotalLemmas.{total, total-sum_by, total-add, total-same, total-above, total-below-apart, one}
use Rattle.bully_table.proofs.PlaceCounts.{places-none, places-more, places-not, places-parted, count-more}

-- the quotas of the members come to so many partitions, and the old table has no more
pub record AreQuotas (quotas : ℕ → ℕ) (partitions bound : ℕ) (before members : List ℕ) : Type 0 where
  pub falling : IsFallingBelow bound members
  pub whole : total quotas members ≡ partitions
  pub covers : length before ≤ partitions

-- a partition that stays has a member as its owner
pub stays-member : (quotas : ℕ → ℕ) (before members : List ℕ) (p : ℕ) → stays quotas before members p ≡ true → Contains members (owner_at before p)
unfolding stays
stays-member quotas before members p e = (any_decides (owner_at before p) members).0 (grind (arith, e))

-- and one of a member stays while the member has less than its quota
pub stays-of : (quotas : ℕ → ℕ) (before members : List ℕ) (p m : ℕ) → Contains members m → owner_at before p ≡ m → stays quotas before members p ≡ nat_lt (count_of m (take p before)) (quotas m)
unfolding stays
stays-of quotas before members p m x e =
    let is_member = (any_decides m members).1 x in
    rw (e, is_member) refl

pub stays-outside : (quotas : ℕ → ℕ) (before members : List ℕ) (p : ℕ) → ¬ Contains members (owner_at before p) → stays quotas before members p ≡ false
stays-outside quotas before members p out = by_case (stays quotas before members p) refl
  where
    by_case : (b : Bool) → stays quotas before members p ≡ b → stays quotas before members p ≡ false
    by_case true e = absurd (out (stays-member quotas before members p e))
    by_case false e = e

pub stays-past : (quotas : ℕ → ℕ) (bound : ℕ) (before members : List ℕ) (p : ℕ) → IsFallingBelow bound members → length before ≤ p → stays quotas before members p ≡ false
stays-past quotas bound before members p falling l =
    let nobody : owner_at before p ≡ 0 = grind (arith, common_steps) in
    stays-outside quotas before members p (λ x. absurd (omega (arith, falling-within bound members (owner_at before p) falling x)))

-- how many stay with a member, of the first n partitions
pub stays-count : (quotas : ℕ → ℕ) (bound : ℕ) (before members : List ℕ) (m n : ℕ) → IsFallingBelow bound members → Contains members m →
    places_where (λ p. stays quotas before members p && (owner_at before p == m)) n ≡ min (count_of m (take n before)) (quotas m)
stays-count quotas bound before members m zero falling x = places-none (λ p. stays quotas before members p && (owner_at before p == m)) ∙ grind (arith, common_steps)
stays-count quotas bound before members m (suc n) falling x =
    let more = stays-count quotas bound before members m n falling x in
    let step = places-more (λ p. stays quotas before members p && (owner_at before p == m)) n in
    let counted = count-more before m n (falling-within bound members m falling x).0 in
    rw (← add-one) (by_case (owner_at before n == m) refl more step counted)
  where
    by_case : (b : Bool) → owner_at before n == m ≡ b →
        places_where (λ p. stays quotas before members p && (owner_at before p == m)) n ≡ min (count_of m (take n before)) (quotas m) →
        places_where (λ p. stays quotas before members p && (owner_at before p == m)) (n + 1) ≡ places_where (λ p. stays quotas before members p && (owner_at before p == m)) n + one (stays quotas before members n && (owner_at before n == m)) →
        count_of m (take (n + 1) before) ≡ count_of m (take n before) + one (owner_at before n == m) →
        places_where (λ p. stays quotas before members p && (owner_at before p == m)) (n + 1) ≡ min (count_of m (take (n + 1) before)) (quotas m)
    by_case true e more step counted =
        let same : owner_at before n ≡ m = grind (arith, nat_tests, e) in
        let test = stays-of quotas before members n m x same in
        grind (arith, nat_tests, e, more, step, counted, test)
    by_case false e more step counted = grind (arith, e, more, step, counted)

-- of all
pub stays-count_all : (quotas : ℕ → ℕ) (bound : ℕ) (before members : List ℕ) (m n : ℕ) → IsFallingBelow bound members → Contains members m → length before ≤ n →
    places_where (λ p. stays quotas before members p && (owner_at before p == m)) n ≡ min (count_of m before) (quotas m)
stays-count_all quotas bound before members m n falling x l = stays-count quotas bound before members m n falling x ∙ grind (arith, common_steps)

pub room-is : (quotas : ℕ → ℕ) (bound : ℕ) (before members : List ℕ) (m : ℕ) → IsFallingBelow bound members → Contains members m → room quotas before members m ≡ quotas m - count_of m before
unfolding room
room-is quotas bound before members m falling x = omega (arith, stays-count_all quotas bound before members m (length before) falling x (omega arith))

-- how many partitions stay in all
pub stays-total : (quotas : ℕ → ℕ) (partitions bound : ℕ) (before members : List ℕ) → AreQuotas quotas partitions bound before members →
    total (λ m. min (count_of m before) (quotas m)) members ≡ places_where (stays quotas before members) partitions
stays-total quotas partitions bound before members h =
    let parted = places-parted (stays quotas before members) (owner_at before) bound members partitions h.falling (λ p l e. stays-member quotas before members p e) in
    let same = total-same (λ m. places_where (λ p. stays quotas before members p && (owner_at before p == m)) partitions) (λ m. min (count_of m before) (quotas m)) members (λ m x. stays-count_all quotas bound before members m partitions h.falling x h.covers) in
    omega arith

-- the members have as much room as there are partitions that don't stay
pub rooms-total : (quotas : ℕ → ℕ) (partitions bound : ℕ) (before members : List ℕ) → AreQuotas quotas partitions bound before members →
    total (room quotas before members) members ≡ places_where (λ p. not (stays quotas before members p)) partitions
rooms-total quotas partitions bound before members h =
    let staying = stays-total quotas partitions bound before members h in
    let others = places-not (stays quotas before members) partitions in
    let split = total-add (room quotas before members) (λ m. min (count_of m before) (quotas m)) members in
    let same = total-same quotas (λ m. room quotas before members m + min (count_of m before) (quotas m)) members (λ m x. omega (arith, room-is quotas bound before members m h.falling x)) in
    omega (arith, h.whole)

pub rooms_below-is : (quotas : ℕ → ℕ) (before members : List ℕ) (m : ℕ) → rooms_below quotas before members m ≡ total (room quotas before members) (below_node m members)
unfolding rooms_below
rooms_below-is quotas before members m = total-sum_by (room quotas before members) (below_node m members)

-- the member that passes a test
member-found : (test : ℕ → Bool) (ms : List ℕ) (m : ℕ) → Contains ms m → test m ≡ true → ((k : ℕ) → Contains ms k → test k ≡ true → k ≡ m) → member_where test ms ≡ m
member-found test [] m x e only = absurd (omega (arith, x.1))
member-found test (a ∷ rest) m x e only = by_case (test a) refl (earlier a m rest x) (λ y. member-found test rest m y e (λ k z. only k (later a k rest z)))
  where
    by_case : (b : Bool) → test a ≡ b → (a ≡ m) ⊎ Contains rest m → (Contains rest m → member_where test rest ≡ m) → cond (test a) a (member_where test rest) ≡ m
    by_case true t place more = rw t (only a (0, omega arith, refl) t)
    by_case false t (inl same) more = absurd (grind (arith, same, e, t))
    by_case false t (inr y) more = rw t (more y)

member-passes : (test : ℕ → Bool) (ms : List ℕ) (m : ℕ) → 0 < m → member_where test ms ≡ m → test m ≡ true
member-passes test [] m pos e = absurd (omega arith)
member-passes test (a ∷ rest) m pos e = by_case (test a) refl e (λ d. member-passes test rest m pos d)
  where
    by_case : (b : Bool) → test a ≡ b → cond (test a) a (member_where test rest) ≡ m → (member_where test rest ≡ m → test m ≡ true) → test m ≡ true
    by_case true t d more = grind (arith, t, d)
    by_case false t d more = more (grind (arith, t, d))

-- who gets the j-th partition: exactly the member with j in its part
abbrev pub IsIn : (ℕ → ℕ) → List ℕ → List ℕ → ℕ → ℕ → Type 0
IsIn quotas before members m j = (rooms_below quotas before members m ≤ j) × (j < rooms_below quotas before members m + room quotas before members m)

pub taker-of : (quotas : ℕ → ℕ) (bound : ℕ) (before members : List ℕ) (m j : ℕ) → IsFallingBelow bound members → Contains members m → IsIn quotas before members m j → taker quotas before members j ≡ m
unfolding taker
taker-of quotas bound before members m j falling x within = member-found _ members m x (grind (arith, nat_tests, within)) (λ k y t. only k y (grind (arith, nat_tests, t)) (grind (arith, nat_tests, t)) (grind arith))
  where
    only : (k : ℕ) → Contains members k → rooms_below quotas before members k ≤ j → j < rooms_below quotas before members k + room quotas before members k → (k ≡ m) ⊎ ((k < m) ⊎ (m < k)) → k ≡ m
    only k y low high (inl e) = e
    only k y low high (inr (inl l)) = absurd (omega (arith, within, rooms_below-is quotas before members k, rooms_below-is quotas before members m, total-below-apart (room quotas before members) bound k m members falling y l))
    only k y low high (inr (inr l)) = absurd (omega (arith, within, rooms_below-is quotas before members k, rooms_below-is quotas before members m, total-below-apart (room quotas before members) bound m k members falling x l))

pub taker-only : (quotas : ℕ → ℕ) (before members : List ℕ) (m j : ℕ) → 0 < m → taker quotas before members j ≡ m → IsIn quotas before members m j
unfolding taker
taker-only quotas before members m j pos e =
    let passes = member-passes (λ k. nat_le (rooms_below quotas before members k) j && nat_lt j (rooms_below quotas before members k + room quotas before members k)) members m pos e in
    (grind (arith, nat_tests, passes), grind (arith, nat_tests, passes))

-- some member has j in its part
part-of : (f : ℕ → ℕ) (bound : ℕ) (ms : List ℕ) (j : ℕ) → IsFallingBelow bound ms → j < total f ms → (m : ℕ) × Contains ms m × (total f (below_node m ms) ≤ j) × (j < total f (below_node m ms) + f m)
part-of f bound [] j falling l = absurd (omega arith)
part-of f bound (a ∷ rest) j falling l = by_case (grind arith) (λ h. part-of f a rest j falling.2 h)
  where
    by_case : (j < total f rest) ⊎ (total f rest ≤ j) → (j < total f rest → (m : ℕ) × Contains rest m × (total f (below_node m rest) ≤ j) × (j < total f (below_node m rest) + f m)) →
        (m : ℕ) × Contains (a ∷ rest) m × (total f (below_node m (a ∷ rest)) ≤ j) × (j < total f (below_node m (a ∷ rest)) + f m)
    by_case (inl h) more =
        let found = more h in
        let low = falling-within a rest found.0 falling.2 found.1 in
        (found.0, later a found.0 rest found.1, grind (arith, nat_tests, low, found.2), grind (arith, nat_tests, low, found.3))
    by_case (inr h) more =
        let all = total-above f a a rest falling.2 (omega arith) in
        (a, (0, omega arith, refl), grind (arith, nat_tests, all, h), grind (arith, nat_tests, all, l))

pub taker-member : (quotas : ℕ → ℕ) (bound : ℕ) (before members : List ℕ) (j : ℕ) → IsFallingBelow bound members → j < total (room quotas before members) members → Contains members (taker quotas before members j)
taker-member quotas bound before members j falling l =
    let found = part-of (room quotas before members) bound members j falling l in
    let is = taker-of quotas bound before members found.0 j falling found.1 (omega (arith, rooms_below-is quotas before members found.0, found.2), omega (arith, rooms_below-is quotas before members found.0, found.3)) in
    rw is found.1
