-- Steps of the loop over the bases.
use Rattle.std.proofs.Common.{◌≡◌, ℕ, ◌+◌, ◌-◌, ◌<◌, ◌≤◌, ◌⊎◌, inl, inr, Bool, List, length, arith, Contains, slice_index_or, slice_set, count_by, nat_lt}
use Rattle.std.proofs.lemmas.Grind.{common_steps}
use Rattle.bully_base.specs.declared.TheConstants.{NODES_MAX}
use Rattle.bully_base.specs.NodeSet.{IsFallingBelow, below_node}
use Rattle.bully_base.specs.Setup.{Setup}
use Rattle.bully_table.specs.Balance.{total_weight, base_of}
use Rattle.bully_table.specs.Planning.{rest_of}
use Rattle.bully_table.specs.Takers.{base_share}
use Rattle.bully_table.proofs.BalanceSteps.{falling-within}
use Rattle.bully_table.proofs.TotalLemmas.{total, total-sum_by, total-above, total-below-member, total-below-other, total-below-within, one}
use Rattle.bully_table.proofs.PartLemmas.{bases-fit}
use Rattle.bully_table.proofs.PlanSteps.{below-none, count-total, count-below-none, count-below-all}
use Rattle.bully_table.proofs.TakerLemmas.{base-inside, base-outside}

-- Values by node, that of node 1 first, which are written in rising order.

-- those of the nodes up to a place are f's
abbrev pub AreWritten : (ℕ → ℕ) → ℕ → List ℕ → Type 0
AreWritten f place values = (m : ℕ) → 0 < m → m < place + 1 → slice_index_or values (m - 1) 0 ≡ f m

-- and those of the nodes behind it are still g's
pub record AreStill (g : ℕ → ℕ) (place : ℕ) (values : List ℕ) : Type 0 where
  pub places : length values ≡ NODES_MAX
  pub still : (m : ℕ) → place < m → m < NODES_MAX + 1 → slice_index_or values (m - 1) 0 ≡ g m

pub still-at : (g : ℕ → ℕ) (place : ℕ) (values : List ℕ) → place < NODES_MAX → AreStill g place values → slice_index_or values place 0 ≡ g (place + 1)
still-at g place values high was =
    let same : place + 1 - 1 ≡ place = omega arith in
    rw same at (was.still (place + 1) (omega arith) (omega arith))

pub still-put : (g : ℕ → ℕ) (place value : ℕ) (values next : List ℕ) → next ≡ slice_set values place value → AreStill g place values → AreStill g (place + 1) next
still-put g place value values next is was = record {
  places = grind (arith, common_steps, is, was.places);
  still = λ m low high. grind (arith, common_steps, is, was.still m (omega arith) high);
}

pub still-skip : (g : ℕ → ℕ) (place : ℕ) (values : List ℕ) → AreStill g place values → AreStill g (place + 1) values
still-skip g place values was = record {
  places = was.places;
  still = λ m low high. was.still m (omega arith) high;
}

pub written-put : (f g : ℕ → ℕ) (place value : ℕ) (values next : List ℕ) → place < NODES_MAX → next ≡ slice_set values place value → value ≡ f (place + 1) → AreStill g place values → AreWritten f place values → AreWritten f (place + 1) next
written-put f g place value values next high is here still was m low less = by_case (grind arith)
  where
    by_case : (m ≡ place + 1) ⊎ (m < place + 1) → slice_index_or next (m - 1) 0 ≡ f m
    by_case (inl e) = rw (e, is) (grind (arith, common_steps, here, still.places, high))
    by_case (inr l) = rw is (grind (arith, common_steps, was m low l, l, low))

pub written-skip : (f g : ℕ → ℕ) (place : ℕ) (values : List ℕ) → place < NODES_MAX → g (place + 1) ≡ f (place + 1) → AreStill g place values → AreWritten f place values → AreWritten f (place + 1) values
written-skip f g place values high same still was m low less = by_case (grind arith)
  where
    by_case : (m ≡ place + 1) ⊎ (m < place + 1) → slice_index_or values (m - 1) 0 ≡ f m
    by_case (inl e) = rw e (omega (arith, still.still (place + 1) (omega arith) (omega arith), same))
    by_case (inr l) = was m low l

pub written-all : (f g : ℕ → ℕ) (place m : ℕ) (values : List ℕ) → (place < m → g m ≡ f m) → AreStill g place values → AreWritten f place values → 0 < m → m < NODES_MAX + 1 → slice_index_or values (m - 1) 0 ≡ f m
written-all f g place m values same still all low high = by_case (grind arith)
  where
    by_case : (m < place + 1) ⊎ (place < m) → slice_index_or values (m - 1) 0 ≡ f m
    by_case (inl l) = all m low l
    by_case (inr l) = omega (arith, still.still m l high, same l)

-- Members below a node, with one node more.

pub count-next : (test : ℕ → Bool) (bound k : ℕ) (ms : List ℕ) → IsFallingBelow bound ms → Contains ms k → count_by test (below_node (k + 1) ms) ≡ count_by test (below_node k ms) + one (test k)
count-next test bound k ms falling x = omega (arith, count-total test (below_node (k + 1) ms), count-total test (below_node k ms), total-below-member (λ m. one (test m)) bound k ms falling x)

pub count-skip : (test : ℕ → Bool) (k : ℕ) (ms : List ℕ) → ¬ Contains ms k → count_by test (below_node (k + 1) ms) ≡ count_by test (below_node k ms)
count-skip test k ms out = omega (arith, count-total test (below_node (k + 1) ms), count-total test (below_node k ms), total-below-other (λ m. one (test m)) k ms out)

-- The bases up to a place: what they leave, and how many members own more than theirs.

abbrev pub owns_more : Setup → List ℕ → List ℕ → ℕ → Bool
owns_more setup members counts m = nat_lt (base_of setup members m) (slice_index_or counts (m - 1) 0)

pub record BasedBelow (setup : Setup) (members counts : List ℕ) (rest above place : ℕ) (bases : List ℕ) : Type 0 where
  pub left : rest + total (base_of setup members) (below_node (place + 1) members) ≡ setup.partitions
  pub counted : above ≡ count_by (owns_more setup members counts) (below_node (place + 1) members)
  pub based : AreWritten (base_share setup members) place bases

pub based-none : (setup : Setup) (bound : ℕ) (members counts bases : List ℕ) → IsFallingBelow bound members → BasedBelow setup members counts setup.partitions 0 0 bases
based-none setup bound members counts bases falling = record {
  left = omega (arith, below-none (base_of setup members) bound members falling);
  counted = count-below-none (owns_more setup members counts) bound members falling;
  based = λ m pos low. absurd (omega arith);
}

pub base-fits : (setup : Setup) (bound : ℕ) (members counts bases : List ℕ) (rest above place base : ℕ) → IsFallingBelow bound members → 0 < total_weight setup members → BasedBelow setup members counts rest above place bases → Contains members (place + 1) →
    base ≡ base_of setup members (place + 1) → base ≤ rest
base-fits setup bound members counts bases rest above place base falling weighs was x is =
    omega (arith, was.left, bases-fit setup members weighs, total-below-within (base_of setup members) bound (place + 1) members falling x)

pub based-next : (setup : Setup) (bound : ℕ) (members counts bases next : List ℕ) (rest above place base fewer more : ℕ) → IsFallingBelow bound members → 0 < total_weight setup members → place < NODES_MAX → AreStill (λ m. 0) place bases →
    BasedBelow setup members counts rest above place bases → Contains members (place + 1) → base ≡ base_of setup members (place + 1) → fewer ≡ rest - base → more ≡ above + one (owns_more setup members counts (place + 1)) → next ≡ slice_set bases place base →
    BasedBelow setup members counts fewer more (place + 1) next
based-next setup bound members counts bases next rest above place base fewer more falling weighs high still was x base_is fewer_is more_is is = record {
  left = omega (arith, was.left, base-fits setup bound members counts bases rest above place base falling weighs was x base_is, total-below-member (base_of setup members) bound (place + 1) members falling x);
  counted = omega (arith, was.counted, more_is, count-next (owns_more setup members counts) bound (place + 1) members falling x);
  based = written-put (base_share setup members) (λ m. 0) place base bases next high is (omega (arith, base_is, base-inside setup members (place + 1) x)) still was.based;
}

pub based-skip : (setup : Setup) (members counts bases : List ℕ) (rest above place : ℕ) → place < NODES_MAX → AreStill (λ m. 0) place bases → BasedBelow setup members counts rest above place bases → ¬ Contains members (place + 1) → BasedBelow setup members counts rest above (place + 1) bases
based-skip setup members counts bases rest above place high still was out = record {
  left = omega (arith, was.left, total-below-other (base_of setup members) (place + 1) members out);
  counted = omega (arith, was.counted, count-skip (owns_more setup members counts) (place + 1) members out);
  based = written-skip (base_share setup members) (λ m. 0) place bases high (omega (arith, base-outside setup members (place + 1) out)) still was.based;
}

-- nobody behind the nodes is a member
pub not-behind : (nodes place m : ℕ) (members : List ℕ) → IsFallingBelow (nodes + 1) members → nodes ≤ place → place < m → ¬ Contains members m
not-behind nodes place m members falling past l = λ x. absurd (omega (arith, falling-within (nodes + 1) members m falling x))

pub based-all : (setup : Setup) (members counts bases : List ℕ) (rest above place m : ℕ) → IsFallingBelow (setup.nodes + 1) members → setup.nodes ≤ place → AreStill (λ m. 0) place bases → BasedBelow setup members counts rest above place bases →
    0 < m → m < NODES_MAX + 1 → slice_index_or bases (m - 1) 0 ≡ base_share setup members m
based-all setup members counts bases rest above place m falling past still all =
    written-all (base_share setup members) (λ m. 0) place m bases (λ l. omega (arith, base-outside setup members m (not-behind setup.nodes place m members falling past l))) still all.based

pub rest-is : (setup : Setup) (members counts bases : List ℕ) (rest above place : ℕ) → IsFallingBelow (setup.nodes + 1) members → setup.nodes ≤ place → BasedBelow setup members counts rest above place bases → rest ≡ rest_of setup members
rest-is setup members counts bases rest above place falling past all =
    omega (arith, all.left, total-above (base_of setup members) (setup.nodes + 1) (place + 1) members falling (omega arith), total-sum_by (base_of setup members) members)

pub above-is : (setup : Setup) (members counts bases : List ℕ) (rest above place : ℕ) → IsFallingBelow (setup.nodes + 1) members → setup.nodes ≤ place → BasedBelow setup members counts rest above place bases → above ≡ count_by (owns_more setup members counts) members
above-is setup members counts bases rest above place falling past all =
    omega (arith, all.counted, count-below-all (owns_more setup members counts) (setup.nodes + 1) (place + 1) members falling (omega arith))
