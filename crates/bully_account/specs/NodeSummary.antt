-- What a sheet shows of a node: what the world has of it.
use Rattle.std.specs.Prelude.{◌≡◌, ℕ, ◌+◌, List, [], ◌∷◌, length, ⊤, option_map}
use Rattle.bully_calls.specs.Pending.{pending_call}
use Rattle.bully_world.specs.State.{WorldState, node_state_of, state_at}
use Rattle.bully_steps.specs.Point.{offered}
use Rattle.bully_account.specs.declared.showing.NodeSheet.{NodeSheet}
use Rattle.bully_account.specs.declared.showing.NodeSummary.{NodeSummary}
use Rattle.bully_account.specs.Possible.{ArePossible}

-- node i's vector but for its task, its generation, its point with what that offers, and the call in its slot
abbrev pub shown_in : WorldState → ℕ → NodeSummary
shown_in w i =
    let s = state_at w i in
    let m = node_state_of s in
    record {
      status = m.vector.status;
      coordinator = m.vector.coordinator;
      halter = m.vector.halter;
      up = m.vector.up;
      generation = s.generation;
      point = m.point;
      offer = offered w.setup m.vector.coordinator m.point;
      call = option_map pending_call m.pending;
    }

-- the sheet shows what the world has of node i, and the kinds of event that are possible there
pub record Shows (w : WorldState) (i : ℕ) (sheet : NodeSheet) : Type 0 where
  pub shown : sheet.shown ≡ shown_in w i
  pub possible : ArePossible w i sheet.possible.items

-- the sheets show the nodes from node i on, in rising order
abbrev pub ShowsFrom : WorldState → ℕ → List NodeSheet → Type 0
ShowsFrom w i [] = ⊤
ShowsFrom w i (sheet ∷ sheets) = Shows w i sheet × ShowsFrom w (i + 1) sheets

-- and all nodes of the group
abbrev pub ShowsAll : WorldState → List NodeSheet → Type 0
ShowsAll w sheets = (length sheets ≡ w.setup.nodes) × ShowsFrom w 1 sheets
