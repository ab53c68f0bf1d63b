-- The nodes that take the partitions which don't stay: how many they are, and which one is the j-th.
use Rattle.std.proofs.Common.{◌≡◌, ℕ, zero, suc, ◌+◌, ◌-◌, ◌<◌, ◌≤◌, ◌⊎◌, inl, inr, Bool, true, false, List, [], ◌∷◌, ◌++◌, drop, length, replicate, take, arith, sym, refl, ◌∙◌, ap, add-one, Contains, slice_index_or, Option, Some, None, nat_lt, ◌==◌, sum_by}
use Rattle.std.specs.List.{list_any}
use Rattle.std.specs.Option.{IsSome, MatchOption}
use Rattle.std.proofs.lemmas.Bool.Decides.{nat_tests}
use Rattle.std.proofs.lemmas.List.{length-append, length-replicate, get_or-replicate, get_or_append_left, get_or-append_right, drop_more}
use Rattle.bully_base.specs.declared.TheConstants.{NODES_MAX}
use Rattle.bully_base.specs.NodeSet.{IsFallingBelow, below_node}
use Rattle.bully_base.specs.Setup.{Setup, IsNodeNumber}
use Rattle.bully_table.specs.Balance.{count_of, base_of}
use Rattle.bully_table.specs.Planning.{owner_at, rest_of, quota, stays, room, taker, planned_owner}
use Rattle.bully_table.specs.Takers.{base_share, spare, takers_from, takers_left}
use Rattle.bully_table.proofs.BalanceLemmas.{any_decides}
use Rattle.bully_table.proofs.BalanceSteps.{falling-within}
use Rattle.bully_table.proofs.TotalLemmas.{total, total-sum_by, total-same, total-above, total-below-member, total-below-other}
use Rattle.bully_table.proofs.ShareLemmas.{quota-outside}
use Rattle.bully_table.proofs.StayLemmas.{AreQuotas, stays-of, stays-outside, room-is}
use Rattle.bully_table.proofs.PlannedLemmas.{leaving, leaving-more, leaving-same, leaving-fits, planned-found}
use Rattle.bully_table.proofs.PlanSteps.{member-or-not, below-none, taken-at}

pub takers-none : (takes : ℕ → ℕ) (m : ℕ) → takers_from takes 0 m ≡ []
unfolding takers_from
takers-none takes m = refl

pub takers-next : (takes : ℕ → ℕ) (n k m : ℕ) → n ≡ k + 1 → takers_from takes n m ≡ replicate (takes m) m ++ takers_from takes k (m + 1)
unfolding takers_from
takers-next takes n k m e = rw (e, add-one) refl

-- the cursor: on to the next node, one taken, and at its end
pub left-on : (quotas counts : List ℕ) (node room next more : ℕ) → room ≡ 0 → node < NODES_MAX → next ≡ node + 1 → more ≡ spare quotas counts next → takers_left quotas counts next more ≡ takers_left quotas counts node room
left-on quotas counts node room next more none low on is =
    let step = takers-next (spare quotas counts) (NODES_MAX - node) (NODES_MAX - (node + 1)) (node + 1) (omega arith) in
    rw (none, is, on) (sym step)

pub left-take : (quotas counts : List ℕ) (node room fewer : ℕ) → room ≡ fewer + 1 → takers_left quotas counts node room ≡ node ∷ takers_left quotas counts node fewer
left-take quotas counts node room fewer e = rw (e, add-one) refl

pub left-none : (quotas counts : List ℕ) (node room : ℕ) → room ≡ 0 → NODES_MAX ≤ node → takers_left quotas counts node room ≡ []
left-none quotas counts node room none high =
    let all : NODES_MAX - node ≡ 0 = omega arith in
    rw (none, all) (takers-none (spare quotas counts) (node + 1))

-- one number more, whether it is a member or takes nothing
total-next : (takes : ℕ → ℕ) (bound k : ℕ) (ms : List ℕ) → IsFallingBelow bound ms → (¬ Contains ms k → takes k ≡ 0) → total takes (below_node (k + 1) ms) ≡ total takes (below_node k ms) + takes k
total-next takes bound k ms falling outside = by_case (member-or-not ms k)
  where
    by_case : Contains ms k ⊎ (¬ Contains ms k) → total takes (below_node (k + 1) ms) ≡ total takes (below_node k ms) + takes k
    by_case (inl x) = total-below-member takes bound k ms falling x
    by_case (inr out) = omega (arith, total-below-other takes k ms out, outside out)

takers-length : (takes : ℕ → ℕ) (bound n m end : ℕ) (ms : List ℕ) → IsFallingBelow bound ms → ((k : ℕ) → ¬ Contains ms k → m ≤ k → k < end → takes k ≡ 0) → m + n ≡ end →
    length (takers_from takes n m) + total takes (below_node m ms) ≡ total takes (below_node end ms)
unfolding takers_from
takers-length takes bound zero m end ms falling outside e =
    let here : m ≡ end = omega arith in
    let same : total takes (below_node m ms) ≡ total takes (below_node end ms) = ap (λ (k : ℕ). total takes (below_node k ms)) here in
    omega arith
takers-length takes bound (suc n) m end ms falling outside e =
    let more = takers-length takes bound n (m + 1) end ms falling (λ k out l h. outside k out (omega arith) h) (omega arith) in
    let next = total-next takes bound m ms falling (λ out. outside m out (omega arith) (omega arith)) in
    let split = length-append (replicate (takes m) m) (takers_from takes n (m + 1)) in
    let own = length-replicate (takes m) m in
    omega arith

-- the j-th is the member in whose part j lies
abbrev IsPart : (ℕ → ℕ) → List ℕ → ℕ → ℕ → Type 0
IsPart takes ms k j = Contains ms k × (total takes (below_node k ms) ≤ j) × (j < total takes (below_node k ms) + takes k)

takers-part : (takes : ℕ → ℕ) (bound n m end j i : ℕ) (ms : List ℕ) → IsFallingBelow bound ms → ((k : ℕ) → ¬ Contains ms k → m ≤ k → k < end → takes k ≡ 0) → m + n ≡ end →
    j < length (takers_from takes n m) → i ≡ total takes (below_node m ms) + j → IsPart takes ms (slice_index_or (takers_from takes n m) j 0) i
unfolding takers_from
takers-part takes bound zero m end j i ms falling outside e l is = absurd (omega arith)
takers-part takes bound (suc n) m end j i ms falling outside e l is =
    by_case (grind arith) (λ k less at. takers-part takes bound n (m + 1) end k i ms falling (λ k out low high. outside k out (omega arith) high) (omega arith) less at)
  where
    rest : List ℕ
    rest = takers_from takes n (m + 1)

    by_member : j < takes m → Contains ms m ⊎ (¬ Contains ms m) → IsPart takes ms m i
    by_member h (inl x) = (x, omega arith, omega arith)
    by_member h (inr out) = absurd (omega (arith, outside m out (omega arith) (omega arith)))

    by_case : (j < takes m) ⊎ (takes m ≤ j) → ((k : ℕ) → k < length rest → i ≡ total takes (below_node (m + 1) ms) + k → IsPart takes ms (slice_index_or rest k 0) i) → IsPart takes ms (slice_index_or (replicate (takes m) m ++ rest) j 0) i
    by_case (inl h) more =
        let own = length-replicate (takes m) m in
        let here : slice_index_or (replicate (takes m) m ++ rest) j 0 ≡ m = get_or_append_left (replicate (takes m) m) rest 0 j (omega arith) ∙ get_or-replicate (takes m) j m 0 h in
        rw here (by_member h (member-or-not ms m))
    by_case (inr h) more =
        let own = length-replicate (takes m) m in
        let split = length-append (replicate (takes m) m) rest in
        let there : slice_index_or (replicate (takes m) m ++ rest) j 0 ≡ slice_index_or rest (j - takes m) 0 = get_or-append_right (replicate (takes m) m) rest (takes m) j 0 own h in
        let next = total-next takes bound m ms falling (λ out. outside m out (omega arith) (omega arith)) in
        rw there (more (j - takes m) (omega arith) (omega arith))

-- whoever is no member takes nothing, and a member as often as it has room
pub record AreRooms (quotas : ℕ → ℕ) (before members : List ℕ) (takes : ℕ → ℕ) : Type 0 where
  pub outside : (k : ℕ) → ¬ Contains members k → 1 ≤ k → k < NODES_MAX + 1 → takes k ≡ 0
  pub inside : (k : ℕ) → Contains members k → takes k ≡ room quotas before members k

pub base-outside : (setup : Setup) (members : List ℕ) (m : ℕ) → ¬ Contains members m → base_share setup members m ≡ 0
base-outside setup members m out = by_case (list_any (λ k. k == m) members) refl
  where
    by_case : (b : Bool) → list_any (λ k. k == m) members ≡ b → base_share setup members m ≡ 0
    by_case true e = absurd (out ((any_decides m members).0 e))
    by_case false e = rw e refl

pub base-inside : (setup : Setup) (members : List ℕ) (m : ℕ) → Contains members m → base_share setup members m ≡ base_of setup members m
base-inside setup members m x =
    let is_member = (any_decides m members).1 x in
    rw is_member refl

-- the lists that the quotas and the counts are written in
pub record AreTold (quotas : ℕ → ℕ) (before members told counts : List ℕ) : Type 0 where
  pub outside : (m : ℕ) → ¬ Contains members m → quotas m ≡ 0
  pub quotas_told : (m : ℕ) → IsNodeNumber m → slice_index_or told (m - 1) 0 ≡ quotas m
  pub counts_told : (m : ℕ) → IsNodeNumber m → slice_index_or counts (m - 1) 0 ≡ count_of m before

pub told-from : (setup : Setup) (before members told counts : List ℕ) → ((m : ℕ) → IsNodeNumber m → slice_index_or told (m - 1) 0 ≡ quota setup before members m) → ((m : ℕ) → IsNodeNumber m → slice_index_or counts (m - 1) 0 ≡ count_of m before) →
    AreTold (quota setup before members) before members told counts
told-from setup before members told counts quotas_told counts_told = record {
  outside = λ m out. quota-outside (base_of setup members) (rest_of setup members) before members m out;
  quotas_told = quotas_told;
  counts_told = counts_told;
}

pub are-rooms : (quotas : ℕ → ℕ) (before members told counts : List ℕ) → IsFallingBelow (NODES_MAX + 1) members → AreTold quotas before members told counts → AreRooms quotas before members (spare told counts)
are-rooms quotas before members told counts falling h = record {
  outside = λ k out low high. omega (arith, h.quotas_told k (omega arith, omega arith), h.outside k out);
  inside = λ k x.
      let within = falling-within (NODES_MAX + 1) members k falling x in
      omega (arith, h.quotas_told k (within.0, omega (arith, within.1)), h.counts_told k (within.0, omega (arith, within.1)), room-is quotas (NODES_MAX + 1) before members k falling x);
}

pub takers-all : (quotas : ℕ → ℕ) (before members : List ℕ) (takes : ℕ → ℕ) → IsFallingBelow (NODES_MAX + 1) members → AreRooms quotas before members takes → length (takers_from takes NODES_MAX 1) ≡ sum_by (room quotas before members) members
takers-all quotas before members takes falling rooms =
    let counted = takers-length takes (NODES_MAX + 1) NODES_MAX 1 (NODES_MAX + 1) members falling rooms.outside (omega arith) in
    omega (arith, below-none takes (NODES_MAX + 1) members falling, total-above takes (NODES_MAX + 1) (NODES_MAX + 1) members falling (omega arith), total-same takes (room quotas before members) members rooms.inside, total-sum_by (room quotas before members) members)

pub taker-at : (quotas : ℕ → ℕ) (before members : List ℕ) (takes : ℕ → ℕ) (j : ℕ) → IsFallingBelow (NODES_MAX + 1) members → AreRooms quotas before members takes → j < length (takers_from takes NODES_MAX 1) →
    slice_index_or (takers_from takes NODES_MAX 1) j 0 ≡ taker quotas before members j
taker-at quotas before members takes j falling rooms l =
    let found = takers-part takes (NODES_MAX + 1) NODES_MAX 1 (NODES_MAX + 1) j j members falling rooms.outside (omega arith) l (omega (arith, below-none takes (NODES_MAX + 1) members falling)) in
    let below = total takes (below_node (slice_index_or (takers_from takes NODES_MAX 1) j 0) members) in
    sym (taken-at quotas before (NODES_MAX + 1) members takes (slice_index_or (takers_from takes NODES_MAX 1) j 0) (j - below) j falling found.0 rooms.inside (omega (arith, found.1)) (omega (arith, found.1, found.2)))

-- who takes the next partition that doesn't stay
record IsTaking (quotas : ℕ → ℕ) (before members takers left : List ℕ) (place : ℕ) : Type 0 where
  within : leaving quotas before members place < length takers
  taker_is : slice_index_or takers (leaving quotas before members place) 0 ≡ taker quotas before members (leaving quotas before members place)
  here : left ≡ slice_index_or takers (leaving quotas before members place) 0 ∷ drop (leaving quotas before members place + 1) takers

is-taking : (quotas : ℕ → ℕ) (partitions : ℕ) (before members told counts takers left : List ℕ) (place : ℕ) → AreQuotas quotas partitions (NODES_MAX + 1) before members → AreTold quotas before members told counts →
    takers ≡ takers_from (spare told counts) NODES_MAX 1 → place < partitions → stays quotas before members place ≡ false → left ≡ drop (leaving quotas before members place) takers → IsTaking quotas before members takers left place
is-taking quotas partitions before members told counts takers left place h lists takers_is low leaves left_is =
    let rooms = are-rooms quotas before members told counts h.falling lists in
    let all = takers-all quotas before members (spare told counts) h.falling rooms in
    let fits = leaving-fits quotas partitions (NODES_MAX + 1) before members place h low leaves in
    let inside : leaving quotas before members place < length takers = rw takers_is (omega arith) in
    record {
      within = inside;
      taker_is = rw takers_is (taker-at quotas before members (spare told counts) (leaving quotas before members place) h.falling rooms (omega arith));
      here = left_is ∙ drop_more takers (leaving quotas before members place) 0 inside;
    }

pub next-is-some : (quotas : ℕ → ℕ) (partitions : ℕ) (before members told counts takers left next : List ℕ) (place : ℕ) (taken : Option ℕ) → AreQuotas quotas partitions (NODES_MAX + 1) before members → AreTold quotas before members told counts →
    takers ≡ takers_from (spare told counts) NODES_MAX 1 → place < partitions → stays quotas before members place ≡ false → left ≡ drop (leaving quotas before members place) takers →
    MatchOption taken ((left ≡ []) × (next ≡ [])) (λ node. left ≡ node ∷ next) → IsSome taken
next-is-some quotas partitions before members told counts takers left next place None h lists takers_is low leaves left_is taken_is =
    let taking = is-taking quotas partitions before members told counts takers left place h lists takers_is low leaves left_is in
    let empty = taken_is.0 in
    let whole = taking.here in
    absurd (cc)
next-is-some quotas partitions before members told counts takers left next place (Some node) h lists takers_is low leaves left_is taken_is = refl

pub next-is-planned : (quotas : ℕ → ℕ) (partitions : ℕ) (before members told counts takers left next : List ℕ) (place owner : ℕ) (taken : Option ℕ) → AreQuotas quotas partitions (NODES_MAX + 1) before members → AreTold quotas before members told counts →
    takers ≡ takers_from (spare told counts) NODES_MAX 1 → place < partitions → stays quotas before members place ≡ false → left ≡ drop (leaving quotas before members place) takers →
    MatchOption taken ((left ≡ []) × (next ≡ [])) (λ node. left ≡ node ∷ next) → taken ≡ Some owner →
    (owner ≡ planned_owner quotas before members place) × (next ≡ drop (leaving quotas before members (place + 1)) takers)
next-is-planned quotas partitions before members told counts takers left next place owner None h lists takers_is low leaves left_is taken_is is = absurd (cc)
next-is-planned quotas partitions before members told counts takers left next place owner (Some node) h lists takers_is low leaves left_is taken_is is =
    let taking = is-taking quotas partitions before members told counts takers left place h lists takers_is low leaves left_is in
    let whole = taking.here in
    let first : owner ≡ slice_index_or takers (leaving quotas before members place) 0 = cc in
    let rest : next ≡ drop (leaving quotas before members place + 1) takers = cc in
    let step = leaving-more quotas before members place (leaving quotas before members place) (leaving quotas before members place + 1) leaves refl refl in
    (planned-found quotas before members place (leaving quotas before members place) owner leaves refl (first ∙ taking.taker_is), rest ∙ ap (λ (k : ℕ). drop k takers) step)

-- and none is taken for one that stays
pub taking-stays : (quotas : ℕ → ℕ) (before members takers left : List ℕ) (place : ℕ) → stays quotas before members place ≡ true → left ≡ drop (leaving quotas before members place) takers →
    left ≡ drop (leaving quotas before members (place + 1)) takers
taking-stays quotas before members takers left place e is =
    is ∙ ap (λ (k : ℕ). drop k takers) (leaving-same quotas before members place (leaving quotas before members place) (leaving quotas before members place) e refl refl)

-- what stays, by what is left of its owner's quota
pub stays-left : (quotas : ℕ → ℕ) (before members : List ℕ) (p m left : ℕ) → (¬ Contains members m → quotas m ≡ 0) → owner_at before p ≡ m → left ≡ quotas m - count_of m (take p before) → stays quotas before members p ≡ nat_lt 0 left
stays-left quotas before members p m left outside owned is = by_case (member-or-not members m)
  where
    by_case : Contains members m ⊎ (¬ Contains members m) → stays quotas before members p ≡ nat_lt 0 left
    by_case (inl x) = stays-of quotas before members p m x owned ∙ grind (arith, nat_tests, is)
    by_case (inr out) = stays-outside quotas before members p (rw owned out) ∙ grind (arith, nat_tests, is, outside out)
