-- Who takes the partitions that don't stay, one after the other.
use Rattle.std.specs.Prelude.{◌≡◌, ℕ, zero, suc, ◌+◌, ◌-◌, List, [], ◌++◌, replicate, take, ◌==◌, slice_index_or}
use Rattle.std.specs.Prelude.{if◌then◌else◌}
use Rattle.std.specs.List.{list_any}
use Rattle.bully_base.specs.Setup.{Setup, IsNodeNumber}
use Rattle.bully_base.specs.declared.TheConstants.{NODES_MAX}
use Rattle.bully_table.specs.Balance.{count_of, base_of}

-- the node's base, and none where it is no member
abbrev pub base_share : Setup → List ℕ → ℕ → ℕ
base_share setup members m = if list_any (λ k. k == m) members then base_of setup members m else 0

-- how many the node still takes, where it is to own so many and has so many
abbrev pub spare : List ℕ → List ℕ → ℕ → ℕ
spare quotas counts m = slice_index_or quotas (m - 1) 0 - slice_index_or counts (m - 1) 0

-- the n nodes from m on, each as often as it takes
unfoldable pub takers_from : (ℕ → ℕ) → ℕ → ℕ → List ℕ
takers_from takes zero m = []
takers_from takes (suc n) m = replicate (takes m) m ++ takers_from takes n (m + 1)

-- who is still to take, where this node takes so many more
abbrev pub takers_left : List ℕ → List ℕ → ℕ → ℕ → List ℕ
takers_left quotas counts node left =
    replicate left node ++ takers_from (spare quotas counts) (NODES_MAX - node) (node + 1)

-- what is left of each quota once the owners at so many places are counted
abbrev pub AreLeft : (ℕ → ℕ) → List ℕ → ℕ → List ℕ → Type 0
AreLeft quotas before place left = (m : ℕ) → IsNodeNumber m
    → slice_index_or left (m - 1) 0 ≡ quotas m - count_of m (take place before)
