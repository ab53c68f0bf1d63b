-- What stands in a picture of how the nodes stand: a bar for each stretch of rows over which a node keeps its status
-- and its coordinator.
use Rattle.std.specs.Prelude.{◌≡◌, ℕ, ◌-◌, ◌<◌, ◌≤◌, Bool, true, false, List, [], ◌∷◌, ◌++◌, All, Some, codes, map}
use Rattle.std.specs.Prelude.{slice_get}
use Rattle.std.specs.Fmt.{decimal}
use Rattle.bully_base.specs.declared.node.Status.{Status}
use Rattle.bully_rows.specs.Words.{status_word}
use Rattle.bully_film.specs.declared.scene.Scene.{Scene}
use Rattle.bully_film.specs.declared.snapshot.NodeSnapshot.{NodeSnapshot}
use Rattle.bully_film.specs.declared.stands.Stand.{Stand}
use Rattle.bully_film.specs.declared.stretches.Stretch.{Stretch}
use Rattle.bully_film.specs.declared.whole.Lane.{Lane}
use Rattle.bully_film.specs.Lane.{stand_of}
use Rattle.bully_picture.specs.Title.{Has}
use Rattle.bully_picture.specs.Words.{followed_text}

-- a stretch of rows over which a node stood so
abbrev pub Bar : Type 0
Bar = Stretch Stand

-- how a bar looks: dotted while the node is down, and else in the colour of the status
abbrev pub bar_look : Status → List ℕ
bar_look Status.Down = codes " stroke=\"#aaa\" stroke-width=\"2\" stroke-dasharray=\"2 4\">"
bar_look Status.Election = codes " fill=\"#E69F00\">"
bar_look Status.Reorganization = codes " fill=\"#56B4E9\">"
bar_look Status.Normal = codes " fill=\"#009E73\">"

abbrev pub stand_text : Stand → List ℕ
stand_text stand = followed_text (status_word stand.status) (codes " under ") stand.coordinator

-- any rows are shown
abbrev pub shows_rows : List Scene → Bool
shows_rows [] = false
shows_rows (s ∷ scenes) = true

-- after which rows, where any are shown
abbrev pub behind_rows : Bool → ℕ → ℕ → List ℕ
behind_rows false first last = []
behind_rows true first last = (codes ", after rows " ++ decimal first ++ codes " to ") ++ (decimal last ++ [])

-- the look of a bar of node i, and what is shown where the pointer rests on it: the node, how it stood, and after
-- which rows
abbrev pub bar_label : Bool → ℕ → Bar → List ℕ
bar_label shows i bar =
    bar_look bar.seen.status ++ (codes "<title>node " ++ decimal i ++ codes ": ") ++ stand_text bar.seen
    ++ behind_rows shows bar.first bar.last ++ codes "</title>"

-- all of these bars of node i stand there, and those of all lanes
abbrev pub HasBars : List ℕ → Bool → ℕ → List Bar → Type 0
HasBars text shows i bars = All (λ bar. Has text (bar_label shows i bar)) bars

abbrev pub HasLaneBars : List ℕ → Bool → List Lane → Type 0
HasLaneBars text shows lanes = All (λ lane. HasBars text shows lane.node lane.bars.items) lanes

-- after this row it is so, of what is so after each row from the first on
abbrev pub IsBehind : {T : Type 0} → ℕ → List T → T → ℕ → Type 0
IsBehind first values value row = (first ≤ row) × (slice_get values (row - first) ≡ Some value)

-- the text has a bar of how node i stood after this row. It goes from one row to another around this one, and after
-- each of those the node stood so
pub record HasBar (text : List ℕ) (shows : Bool) (i first : ℕ) (stands : List Stand) (stand : Stand)
    (row : ℕ) : Type 0 where
  pub from : ℕ
  pub to : ℕ
  pub around : (from ≤ row) × (row ≤ to)
  pub stood : (other : ℕ) → from ≤ other → other ≤ to → IsBehind first stands stand other
  pub bar : Has text (bar_label shows i (record { first = from; last = to; seen = stand }))

-- each of so many nodes, from node 1 on, stood so after each row from the first on: of each there is a bar
abbrev pub HasStands : List ℕ → Bool → ℕ → ℕ → (ℕ → List NodeSnapshot) → Type 0
HasStands text shows nodes first snapshots =
    (i : ℕ) → 0 < i → i ≤ nodes → (stand : Stand) (row : ℕ) → IsBehind first (map stand_of (snapshots i)) stand row
    → HasBar text shows i first (map stand_of (snapshots i)) stand row
