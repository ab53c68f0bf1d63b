-- Steps of the loop over the quotas.
use Rattle.std.proofs.Common.{◌≡◌, ℕ, ◌+◌, ◌-◌, ◌<◌, ◌≤◌, min, Bool, true, false, List, [], ◌∷◌, arith, refl, Contains, slice_index_or, slice_set, count_by, not, nat_lt}
use Rattle.std.proofs.lemmas.Bool.Decides.{nat_tests}
use Rattle.bully_base.specs.declared.TheConstants.{NODES_MAX}
use Rattle.bully_base.specs.NodeSet.{IsFallingBelow, below_node}
use Rattle.bully_base.specs.Setup.{Setup, IsNodeNumber}
use Rattle.bully_table.specs.Balance.{count_of, base_of}
use Rattle.bully_table.specs.Planning.{holds_more, rest_of, quota}
use Rattle.bully_table.specs.Takers.{base_share}
use Rattle.bully_table.proofs.TotalLemmas.{total, lower, one, total-same}
use Rattle.bully_table.proofs.ShareLemmas.{rank, rank-large, rank-small, quota-is, quota-outside}
use Rattle.bully_table.proofs.BalanceSteps.{falling-within}
use Rattle.bully_table.proofs.PlanSteps.{count-total, count-below-none}
use Rattle.bully_table.proofs.BaseSteps.{AreWritten, AreStill, written-put, written-skip, written-all, count-next, count-skip, not-behind, owns_more}
use Rattle.bully_table.proofs.TakerLemmas.{base-outside}

lower-below : (test : ℕ → Bool) (k : ℕ) (ms : List ℕ) → lower test k ms ≡ total (λ m. one (test m)) (below_node k ms)
lower-below test k [] = refl
lower-below test k (m ∷ ms) = grind (arith, nat_tests, lower-below test k ms)

one-left : (r rest left : ℕ) → left ≡ rest - r → one (nat_lt r rest) ≡ min left 1
one-left r rest left e = grind (arith, nat_tests, e)

-- the members that hold more than their base, and the others
abbrev pub firsts : Setup → List ℕ → List ℕ → ℕ → Bool
firsts setup before members m = holds_more (base_of setup members) before m

abbrev pub laters : Setup → List ℕ → List ℕ → ℕ → Bool
laters setup before members m = not (holds_more (base_of setup members) before m)

quota-first : (setup : Setup) (before members : List ℕ) (m left : ℕ) → Contains members m → firsts setup before members m ≡ true →
    left ≡ rest_of setup members - count_by (firsts setup before members) (below_node m members) → quota setup before members m ≡ base_of setup members m + min left 1
quota-first setup before members m left x e is =
    let own = quota-is (base_of setup members) (rest_of setup members) before members m x in
    let placed = rank-large (base_of setup members) before members m e in
    let below = lower-below (firsts setup before members) m members in
    let counted = count-total (firsts setup before members) (below_node m members) in
    let more = one-left (rank (base_of setup members) before members m) (rest_of setup members) left (omega arith) in
    omega arith

quota-later : (setup : Setup) (before members : List ℕ) (m left : ℕ) → Contains members m → firsts setup before members m ≡ false →
    left ≡ rest_of setup members - (count_by (firsts setup before members) members + count_by (laters setup before members) (below_node m members)) → quota setup before members m ≡ base_of setup members m + min left 1
quota-later setup before members m left x e is =
    let own = quota-is (base_of setup members) (rest_of setup members) before members m x in
    let placed = rank-small (base_of setup members) before members m e in
    let below = lower-below (laters setup before members) m members in
    let counted = count-total (laters setup before members) (below_node m members) in
    let all = count-total (firsts setup before members) members in
    let more = one-left (rank (base_of setup members) before members m) (rest_of setup members) left (omega arith) in
    omega arith

-- what is left of the rest at a place, and the quotas of the nodes up to it
pub record SharedBelow (setup : Setup) (before members : List ℕ) (first later place : ℕ) (quotas : List ℕ) : Type 0 where
  pub first_left : first ≡ rest_of setup members - count_by (firsts setup before members) (below_node (place + 1) members)
  pub later_left : later ≡ rest_of setup members - (count_by (firsts setup before members) members + count_by (laters setup before members) (below_node (place + 1) members))
  pub shared : AreWritten (quota setup before members) place quotas

pub shared-none : (setup : Setup) (bound : ℕ) (before members quotas : List ℕ) (first later above : ℕ) → IsFallingBelow bound members → first ≡ rest_of setup members → later ≡ first - above →
    above ≡ count_by (firsts setup before members) members → SharedBelow setup before members first later 0 quotas
shared-none setup bound before members quotas first later above falling first_is later_is above_is = record {
  first_left = omega (arith, count-below-none (firsts setup before members) bound members falling);
  later_left = omega (arith, count-below-none (laters setup before members) bound members falling);
  shared = λ m pos low. absurd (omega arith);
}

pub shared-first : (setup : Setup) (bound : ℕ) (before members quotas next : List ℕ) (first later place fewer kept taken : ℕ) → IsFallingBelow bound members → place < NODES_MAX → AreStill (base_share setup members) place quotas →
    SharedBelow setup before members first later place quotas → Contains members (place + 1) → firsts setup before members (place + 1) ≡ true →
    taken ≡ min first 1 → fewer ≡ first - 1 → kept ≡ later → next ≡ slice_set quotas place (base_of setup members (place + 1) + taken) → SharedBelow setup before members fewer kept (place + 1) next
shared-first setup bound before members quotas next first later place fewer kept taken falling high still was x e taken_is fewer_is kept_is is = record {
  first_left = grind (arith, e, fewer_is, was.first_left, count-next (firsts setup before members) bound (place + 1) members falling x);
  later_left = grind (arith, e, kept_is, was.later_left, count-next (laters setup before members) bound (place + 1) members falling x);
  shared = written-put (quota setup before members) (base_share setup members) place (base_of setup members (place + 1) + taken) quotas next high is (omega (arith, taken_is, quota-first setup before members (place + 1) first x e was.first_left)) still was.shared;
}

pub shared-later : (setup : Setup) (bound : ℕ) (before members quotas next : List ℕ) (first later place fewer kept taken : ℕ) → IsFallingBelow bound members → place < NODES_MAX → AreStill (base_share setup members) place quotas →
    SharedBelow setup before members first later place quotas → Contains members (place + 1) → firsts setup before members (place + 1) ≡ false →
    taken ≡ min later 1 → fewer ≡ later - 1 → kept ≡ first → next ≡ slice_set quotas place (base_of setup members (place + 1) + taken) → SharedBelow setup before members kept fewer (place + 1) next
shared-later setup bound before members quotas next first later place fewer kept taken falling high still was x e taken_is fewer_is kept_is is = record {
  first_left = grind (arith, e, kept_is, was.first_left, count-next (firsts setup before members) bound (place + 1) members falling x);
  later_left = grind (arith, e, fewer_is, was.later_left, count-next (laters setup before members) bound (place + 1) members falling x);
  shared = written-put (quota setup before members) (base_share setup members) place (base_of setup members (place + 1) + taken) quotas next high is (omega (arith, taken_is, quota-later setup before members (place + 1) later x e was.later_left)) still was.shared;
}

pub shared-skip : (setup : Setup) (before members quotas : List ℕ) (first later place : ℕ) → place < NODES_MAX → AreStill (base_share setup members) place quotas → SharedBelow setup before members first later place quotas → ¬ Contains members (place + 1) →
    SharedBelow setup before members first later (place + 1) quotas
shared-skip setup before members quotas first later place high still was out = record {
  first_left = omega (arith, was.first_left, count-skip (firsts setup before members) (place + 1) members out);
  later_left = omega (arith, was.later_left, count-skip (laters setup before members) (place + 1) members out);
  shared = written-skip (quota setup before members) (base_share setup members) place quotas high (omega (arith, quota-outside (base_of setup members) (rest_of setup members) before members (place + 1) out, base-outside setup members (place + 1) out)) still was.shared;
}

-- nobody beyond the members has a quota
pub shared-all : (setup : Setup) (before members quotas : List ℕ) (first later place m : ℕ) → IsFallingBelow (setup.nodes + 1) members → setup.nodes ≤ place → AreStill (base_share setup members) place quotas → SharedBelow setup before members first later place quotas →
    0 < m → m < NODES_MAX + 1 → slice_index_or quotas (m - 1) 0 ≡ quota setup before members m
shared-all setup before members quotas first later place m falling past still all =
    written-all (quota setup before members) (base_share setup members) place m quotas
    (λ l. let out = not-behind setup.nodes place m members falling past l in omega (arith, quota-outside (base_of setup members) (rest_of setup members) before members m out, base-outside setup members m out)) still all.shared

-- how many hold more, read off the counts
pub above-first : (setup : Setup) (before members counts : List ℕ) (bound above : ℕ) → IsFallingBelow bound members → bound ≤ NODES_MAX + 1 → ((m : ℕ) → IsNodeNumber m → slice_index_or counts (m - 1) 0 ≡ count_of m before) →
    above ≡ count_by (owns_more setup members counts) members → above ≡ count_by (firsts setup before members) members
above-first setup before members counts bound above falling l counted is =
    let same = total-same (λ m. one (owns_more setup members counts m)) (λ m. one (firsts setup before members m)) members (λ m x. by_member m x) in
    omega (arith, is, same, count-total (owns_more setup members counts) members, count-total (firsts setup before members) members)
  where
    by_member : (m : ℕ) → Contains members m → one (owns_more setup members counts m) ≡ one (firsts setup before members m)
    by_member m x =
        let within = falling-within bound members m falling x in
        rw (counted m (within.0, omega (arith, within.1))) refl
