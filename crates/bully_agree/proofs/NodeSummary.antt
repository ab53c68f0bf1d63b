-- What the invariant reads of each node, and what it says of all nodes together.
use Rattle.std.proofs.Common.{◌≡◌, ◌≢◌, ℕ, ◌<◌, ◌≤◌, Bool, true, false, List, Option, Some, None, ◌⊎◌, arith, IsSome}
use Rattle.bully_base.specs.declared.node.Status.{Status}
use Rattle.bully_base.specs.declared.node.Status.TheVariants.{Down, Election, Reorganization, Normal}

-- where a node's procedure stands: it halts the lower nodes, calls them to itself, or hands them the task
pub data Activity : Type 0 where
  Rests Halts Calls Hands : Activity

pub record NodeSummary : Type 0 where
  pub asked : ℕ  -- node i asked past each k with i < k < asked
  pub passed : ℕ  -- node i passed each k with passed ≤ k < i
  pub activity : Activity
  pub status : Status
  pub coordinator : Option ℕ
  pub halter : Option ℕ
  pub task : Option (List ℕ)
  pub announces : Option ℕ  -- a NewCoordinator to this node is sent
  pub readies : Option ℕ  -- a Ready to this node is sent
  pub carries : Option (List ℕ)  -- with this table

abbrev pub takes_part : Status → Bool
takes_part Down = false
takes_part Election = false
takes_part Reorganization = true
takes_part Normal = true

abbrev pub leads : Activity → Bool
leads Rests = false
leads Halts = false
leads Calls = true
leads Hands = true

-- what holds of one node, i of n
pub record LocalInvariant (n i : ℕ) (t : NodeSummary) : Type 0 where
  pub down_passed_none : t.status ≡ Down → i ≤ t.passed
  pub passed_then_asked : t.passed < i → n < t.asked
  pub a_node : (t.status ≡ Down) ⊎ ((0 < i) × (i ≤ n))
  pub halts_itself : t.activity ≡ Halts → t.halter ≡ Some i
  pub leads_status : leads t.activity ≡ true → t.status ≡ Reorganization
  pub leads_itself : leads t.activity ≡ true → t.coordinator ≡ Some i
  pub leads_passed : leads t.activity ≡ true → t.passed ≡ 0
  pub leads_asked : leads t.activity ≡ true → n < t.asked
  pub hands_task : t.activity ≡ Hands → IsSome t.task
  pub announces_alone : (k : ℕ) → t.announces ≡ Some k → t.readies ≡ None
  pub announces_when : (k : ℕ) → t.announces ≡ Some k → t.activity ≢ Halts
  pub readies_when : (k : ℕ) → t.readies ≡ Some k → t.activity ≢ Calls
  pub readies_table : (k : ℕ) → t.readies ≡ Some k → IsSome t.carries

abbrev pub AllLocal : ℕ → (ℕ → NodeSummary) → Type 0
AllLocal n f = (i : ℕ) → LocalInvariant n i (f i)

-- a NewCoordinator from m would take effect at k
pub record Announces (f : ℕ → NodeSummary) (m k : ℕ) : Type 0 where
  pub sent : (f m).announces ≡ Some k
  pub halter : (f k).halter ≡ Some m
  pub status : (f k).status ≡ Election

-- a Ready from m would take effect at k
pub record Readies (f : ℕ → NodeSummary) (m k : ℕ) : Type 0 where
  pub sent : (f m).readies ≡ Some k
  pub coordinator : (f k).coordinator ≡ Some m
  pub status : (f k).status ≡ Reorganization

-- who asked past whom, and who passed whom
pub record Elections (f : ℕ → NodeSummary) : Type 0 where
  pub asked_unpassed : (i k : ℕ) → i < k → k < (f i).asked → i < (f k).passed
  pub asked_apart : (i k : ℕ) → i < k → k < (f i).asked → takes_part (f k).status ≡ false
  pub passed_apart : (m k : ℕ) → (f m).activity ≡ Halts → k < m → (f m).passed ≤ k → takes_part (f k).status ≡ false
  pub halted_unasked : (i k m : ℕ) → (f m).passed ≤ i → i < k → k < m → (f k).halter ≡ Some m → (f k).status ≡ Election → (f i).asked ≤ k

-- a NewCoordinator that would take effect
pub record Announcements (f : ℕ → NodeSummary) : Type 0 where
  pub unasked : (i m k : ℕ) → Announces f m k → i < k → (f i).asked ≤ k
  pub unpassed : (m m' k : ℕ) → Announces f m' k → m ≢ m' → k < m → k < (f m).passed
  pub followed : (m k j : ℕ) → Announces f m k → takes_part (f j).status ≡ true → (f j).coordinator ≡ Some m
  pub single : (m k m' k' : ℕ) → Announces f m k → Announces f m' k' → m ≡ m'

-- a node that leads, and a Ready that would take effect
pub record Leaders (f : ℕ → NodeSummary) : Type 0 where
  pub followed : (m j : ℕ) → leads (f m).activity ≡ true → takes_part (f j).status ≡ true → (f j).coordinator ≡ Some m
  pub calls_none_normal : (m j : ℕ) → (f m).activity ≡ Calls → (f j).status ≢ Normal
  pub hands_task : (m j : ℕ) → (f m).activity ≡ Hands → (f j).status ≡ Normal → (f j).task ≡ (f m).task
  pub hands_carries : (m j : ℕ) → (f m).activity ≡ Hands → (f m).readies ≡ Some j → (f m).carries ≡ (f m).task
  pub readied_task : (m k j : ℕ) → Readies f m k → (f j).status ≡ Normal → (f j).task ≡ (f m).carries

-- the law itself
pub record Agrees (f : ℕ → NodeSummary) : Type 0 where
  pub has_coordinator : (j : ℕ) → takes_part (f j).status ≡ true → IsSome (f j).coordinator
  pub same_coordinator : (i j : ℕ) → takes_part (f i).status ≡ true → takes_part (f j).status ≡ true → (f i).coordinator ≡ (f j).coordinator
  pub has_task : (j : ℕ) → (f j).status ≡ Normal → IsSome (f j).task
  pub same_task : (i j : ℕ) → (f i).status ≡ Normal → (f j).status ≡ Normal → (f i).task ≡ (f j).task

-- the planner and the table of the last plan, if there was one
pub record Origin : Type 0 where
  pub planner : Option ℕ
  pub table : Option (List ℕ)

-- what nodes do their part by comes from the last plan
pub record Fenced (last : Origin) (f : ℕ → NodeSummary) : Type 0 where
  pub normal_planner : (j : ℕ) → (f j).status ≡ Normal → (f j).coordinator ≡ last.planner
  pub normal_table : (j : ℕ) → (f j).status ≡ Normal → (f j).task ≡ last.table
  pub hands_planner : (m : ℕ) → (f m).activity ≡ Hands → last.planner ≡ Some m
  pub hands_table : (m : ℕ) → (f m).activity ≡ Hands → (f m).task ≡ last.table
  pub readied_planner : (m k : ℕ) → Readies f m k → last.planner ≡ Some m
  pub readied_table : (m k : ℕ) → Readies f m k → (f m).carries ≡ last.table

-- what holds between the nodes
pub record GroupInvariant (last : Origin) (f : ℕ → NodeSummary) : Type 0 where
  pub elections : Elections f
  pub announcements : Announcements f
  pub leaders : Leaders f
  pub agrees : Agrees f
  pub fenced : Fenced last f

-- from f to g, node c turns to the summary t and no other node changes
pub record Turns (f g : ℕ → NodeSummary) (c : ℕ) (t : NodeSummary) : Type 0 where
  pub same : (j : ℕ) → ((j ≡ c) × (g j ≡ t)) ⊎ ((j ≢ c) × (g j ≡ f j))

-- where c asked past all above it and passed all below it, nobody else announces
pub sole : {last : Origin} (n c : ℕ) (f : ℕ → NodeSummary) → AllLocal n f → GroupInvariant last f → n < (f c).asked → (f c).passed ≤ 1
    → ((f c).status ≡ Election → (f c).halter ≡ Some c) → (m k : ℕ) → Announces f m k → m ≡ c
sole {last} n c f local kept asked passed own m k a =
    grind (arith, own, kept.announcements.unpassed c m k a, kept.announcements.unasked c m k a, (local k).a_node, a.status, a.halter)
