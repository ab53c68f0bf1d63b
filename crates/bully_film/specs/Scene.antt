-- What a row of a trace shows: which nodes it speaks of, and how they were before it and after it.
use Rattle.std.specs.Prelude.{◌≡◌, ℕ, zero, suc, ◌+◌, Bool, true, false, List, [], ◌∷◌, ◌++◌, Option, Some, None}
use Rattle.std.specs.Prelude.{option_map, length, nat_le, not, ◌&&◌, if◌then◌else◌}
use Rattle.bully_base.specs.declared.node.Status.{Status}
use Rattle.bully_base.specs.Setup.{Setup}
use Rattle.bully_calls.specs.declared.call.Call.{Call}
use Rattle.bully_calls.specs.Pending.{pending_call}
use Rattle.bully_handlers.specs.Vector.{is_normal}
use Rattle.bully_calls.specs.declared.kind.EventKind.{EventKind}
use Rattle.bully_calls.specs.declared.kind.NodeEventKind.{NodeEventKind}
use Rattle.bully_calls.specs.Events.{kind_of, node_of}
use Rattle.bully_world.specs.Cause.{is_idle}
use Rattle.bully_world.specs.State.{is_halt}
use Rattle.bully_world.specs.World.{NodeState, World, node_state, point, vector}
use Rattle.bully_rows.specs.declared.trace.Row.{Row}
use Rattle.bully_rows.specs.EventsTold.{event_of_detailed}
use Rattle.bully_world.specs.Place.{call_at, place_at as place_of_kind}
use Rattle.bully_film.specs.declared.TheConstants.{OWNERS_SHOWN}
use Rattle.bully_film.specs.declared.scene.Change.{Change}
use Rattle.bully_film.specs.declared.scene.SceneStart.{SceneStart}
use Rattle.bully_film.specs.declared.scene.Scene.{Scene}
use Rattle.bully_film.specs.declared.snapshot.NodeSnapshot.{NodeSnapshot}
use Rattle.bully_film.specs.Behind.{world_behind}

-- node i as the world shows it: its status, its coordinator, and the call in its slot
abbrev pub seen_of : NodeState → NodeSnapshot
seen_of m =
    record { status = m.vector.status; coordinator = m.vector.coordinator; call = option_map pending_call m.pending }

abbrev pub snapshot : World → ℕ → NodeSnapshot
snapshot w i = seen_of (node_state w i)

-- what is seen of a node that the group doesn't have
abbrev pub unseen : NodeSnapshot
unseen = record { status = Status.Down; coordinator = None; call = None }

-- what a step from w to w' makes of node i
abbrev pub change : World → World → ℕ → Change
change w w' i = record { node = i; before = snapshot w i; after = snapshot w' i }

-- the node that the row names
abbrev pub node_in : Row → ℕ
node_in (Row.Event e) = node_of e
node_in (Row.Detailed d) = d.node
node_in (Row.Claim claim) = claim.node
node_in (Row.Whole whole) = whole.claim.node

-- what the row's event is; none for a claim
abbrev pub event_kind_in : Row → Option EventKind
event_kind_in (Row.Event e) = Some (kind_of e)
event_kind_in (Row.Detailed d) = Some (kind_of (event_of_detailed d))
event_kind_in (Row.Claim claim) = None
event_kind_in (Row.Whole whole) = None

abbrev pub is_run : Option EventKind → Bool
is_run (Some (EventKind.Node NodeEventKind.Run)) = true
is_run _ = false

-- the node at which the event of a row takes place, if it is of this kind and of node i; without one node i
abbrev pub place_at : World → ℕ → Option EventKind → ℕ
place_at w i None = i
place_at w i (Some kind) = place_of_kind w i kind

abbrev pub is_halting : Option Call → Bool
is_halting None = false
is_halting (Some call) = is_halt call.kind

-- a Halt of node i runs at node j, and cuts a procedure off
abbrev pub cuts : World → ℕ → ℕ → Option EventKind → Bool
cuts w i j event_kind = is_run event_kind && is_halting (call_at w i) && not (is_idle (point w j))

-- what is seen, in this world, of a row with this kind of event that names node i
pub record IsSceneStart (w : World) (i : ℕ) (event_kind : Option EventKind) (scene_start : SceneStart) : Type 0 where
  pub event_kind_is : scene_start.event_kind ≡ event_kind
  pub own : scene_start.own ≡ i
  pub own_before : scene_start.own_before ≡ snapshot w i
  pub other : scene_start.other ≡ place_at w i event_kind
  pub other_before : scene_start.other_before ≡ snapshot w (place_at w i event_kind)
  pub cut : scene_start.cuts ≡ cuts w i (place_at w i event_kind) event_kind

-- a table is planned, or comes with a Ready to a node that is Normal by it
abbrev pub gets_table : Option EventKind → NodeSnapshot → NodeSnapshot → Bool
gets_table (Some EventKind.Plan) before after = true
gets_table (Some (EventKind.Node NodeEventKind.Run)) before after =
    not (is_normal before.status) && is_normal after.status
gets_table _ before after = false

-- neither a second node may be changed by it, nor does a node get a table
abbrev pub is_quiet : Option EventKind → Bool
is_quiet (Some (EventKind.Node NodeEventKind.Run)) = false
is_quiet (Some EventKind.Plan) = false
is_quiet _ = true

-- the task, where a table is got and has so few owners that they are shown
abbrev pub table_shown : Setup → Bool → Option (List ℕ) → Option (List ℕ)
table_shown setup gets task = if gets && nat_le setup.partitions OWNERS_SHOWN then task else None

-- the row is the word of its event and a node
abbrev pub is_node_kind : EventKind → Bool
is_node_kind (EventKind.Node kind) = true
is_node_kind EventKind.Plan = false

abbrev pub is_bare : Row → Bool
is_bare (Row.Event e) = is_node_kind (kind_of e)
is_bare (Row.Detailed d) = false
is_bare (Row.Claim claim) = false
is_bare (Row.Whole whole) = false

-- the row, where it says more than that
abbrev pub said_in : Row → Option Row
said_in row = if is_bare row then None else Some row

-- the row of this number, which leads from w to w'
abbrev pub scene_of : Setup → World → World → ℕ → Row → Scene
scene_of setup w w' number row =
    let i = node_in row in
    let j = place_at w i (event_kind_in row) in
    let gets = gets_table (event_kind_in row) (snapshot w j) (snapshot w' j) in
    record {
      number = number;
      event_kind = event_kind_in row;
      own = change w w' i;
      other = change w w' j;
      cuts = cuts w i j (event_kind_in row);
      gets_table = gets;
      table = table_shown setup gets (vector w' j).task;
      said = said_in row;
    }

-- the row after these first rows of a trace
abbrev pub scene_at : Setup → List Row → Row → Scene
scene_at setup before row =
    scene_of setup (world_behind setup before) (world_behind setup (before ++ row ∷ [])) (length before + 2) row

-- rows after these first rows of a trace
abbrev pub scenes_from : Setup → List Row → List Row → List Scene
scenes_from setup before [] = []
scenes_from setup before (row ∷ rows) = scene_at setup before row ∷ scenes_from setup (before ++ row ∷ []) rows

-- node i after each of these rows
abbrev pub snapshots_from : Setup → List Row → ℕ → List Row → List NodeSnapshot
snapshots_from setup before i [] = []
snapshots_from setup before i (row ∷ rows) =
    snapshot (world_behind setup (before ++ row ∷ [])) i ∷ snapshots_from setup (before ++ row ∷ []) i rows

-- node i before these rows, and after each of them
abbrev pub lane_of : Setup → List Row → ℕ → List Row → List NodeSnapshot
lane_of setup before i rows = snapshot (world_behind setup before) i ∷ snapshots_from setup before i rows

-- the nodes from node i on, so many, in rising order
abbrev pub snapshots_of : World → ℕ → ℕ → List NodeSnapshot
snapshots_of w i zero = []
snapshots_of w i (suc k) = snapshot w i ∷ snapshots_of w (i + 1) k
