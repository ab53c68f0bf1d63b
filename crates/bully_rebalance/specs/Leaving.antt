-- Which partitions a rebalance leaves to the nodes that keep them or own them.
use Rattle.std.specs.Prelude.{All, ◌≡◌, ◌≢◌, ◌==◌, ℕ, Bool, true, false, List, [], Option, Some, Contains, slice_get}
use Rattle.std.specs.Option.{option_map_or}
use Rattle.bully_agree.specs.Fencing.{IsLastPlan, Planned}
use Rattle.bully_calls.specs.declared.event.Event.{Event}
use Rattle.bully_rebalance.specs.declared.leaving.Keeper.{Keeper}
use Rattle.bully_work.specs.Store.{Lease}
use Rattle.bully_work.specs.Working.{GivesTo}

-- whether the table gives partition k to node i
abbrev pub is_given : List ℕ → ℕ → ℕ → Bool
is_given table i k = option_map_or (λ owner. owner == i) (slice_get table k) false

-- ... if there is a table
abbrev pub is_left : Option (List ℕ) → ℕ → ℕ → Bool
is_left table i k = option_map_or (λ t. is_given t i k) table false

-- node i loses a partition if the first table is followed by the second, or by none
pub record Loses (before : List ℕ) (after : Option (List ℕ)) (i : ℕ) : Type 0 where
  pub partition : ℕ
  pub had : GivesTo before partition i
  pub lost : is_left after i partition ≡ false

-- the table gives all these partitions to node i
abbrev pub Leaves : List ℕ → ℕ → List ℕ → Type 0
Leaves table i kept = All (λ k. GivesTo table k i) kept

-- ... what it keeps
abbrev pub LeavesTo : List ℕ → Keeper → Type 0
LeavesTo table keeper = Leaves table keeper.node keeper.partitions

-- a writer has seen this lease, whose name has this node: it has promised this offset of this epoch; if it keeps
-- anything, its node is one of those among which the group is rebalanced; and the table leaves it that
pub record IsLeft (e offset : ℕ) (live table : List ℕ) (node : ℕ) (here : Lease) : Type 0 where
  pub epoch : here.promised.epoch ≡ e
  pub idle : here.promised.offset ≡ offset
  pub rebalanced : here.promised.kept ≢ [] → Contains live node
  pub left : Leaves table node here.promised.kept

-- so it is with each lease that the writer has seen, unless its name is silent
abbrev pub AreLeft : (e offset : ℕ) → (live table : List ℕ) → (ℕ → ℕ) → (ℕ → Bool) → (ℕ → Option Lease) → Type 0
AreLeft e offset live table number silent seen =
    (i : ℕ) (here : Lease) → silent i ≡ false → seen i ≡ Some here → IsLeft e offset live table (number i) here

-- the node is one of those among which the group is rebalanced, and the table leaves it partition k
pub record IsGiven (live table : List ℕ) (node k : ℕ) : Type 0 where
  pub rebalanced : Contains live node
  pub left : GivesTo table k node

-- so it is with each silent name and all that the log's last plan gives it
abbrev pub LoseNothing : List Event → (live table : List ℕ) → (ℕ → ℕ) → (ℕ → Bool) → Type 0
LoseNothing log live table number silent = (i k : ℕ) (p : Planned)
    → silent i ≡ true → IsLastPlan log p → GivesTo p.table k (number i) → IsGiven live table (number i) k

-- a writer has seen this lease, whose name has this node: it has promised this offset of this epoch; and if it keeps
-- anything, its node is one of those among which the group is rebalanced, and a keeper lists for it exactly what it
-- keeps
pub record IsAsked (e offset : ℕ) (live : List ℕ) (keepers : List Keeper) (node : ℕ) (here : Lease) : Type 0 where
  pub epoch : here.promised.epoch ≡ e
  pub idle : here.promised.offset ≡ offset
  pub rebalanced : here.promised.kept ≢ [] → Contains live node
  pub asked : here.promised.kept ≢ [] → Contains keepers (record { node = node; partitions = here.promised.kept })

-- so it is with each lease that the writer has seen, unless its name is silent
abbrev pub AreAsked : (e offset : ℕ) → List ℕ → List Keeper → (ℕ → ℕ) → (ℕ → Bool) → (ℕ → Option Lease) → Type 0
AreAsked e offset live keepers number silent seen =
    (i : ℕ) (here : Lease) → silent i ≡ false → seen i ≡ Some here → IsAsked e offset live keepers (number i) here

-- the node is one of those among which the group is rebalanced, and a keeper for it has partition k
pub record HasKeeper (live : List ℕ) (keepers : List Keeper) (node k : ℕ) : Type 0 where
  pub rebalanced : Contains live node
  pub keeper : Keeper
  pub is : Contains keepers keeper
  pub same : keeper.node ≡ node
  pub has : Contains keeper.partitions k

-- so it is with each silent name and all that the log's last plan gives it
abbrev pub HaveKeepers : List Event → List ℕ → List Keeper → (ℕ → ℕ) → (ℕ → Bool) → Type 0
HaveKeepers log live keepers number silent = (i k : ℕ) (p : Planned)
    → silent i ≡ true → IsLastPlan log p → GivesTo p.table k (number i) → HasKeeper live keepers (number i) k

-- the log's last plan gives no silent name anything
abbrev pub OwnNothing : List Event → (ℕ → ℕ) → (ℕ → Bool) → Type 0
OwnNothing log number silent = (i k : ℕ) (p : Planned)
    → silent i ≡ true → IsLastPlan log p → GivesTo p.table k (number i) → ⊥
