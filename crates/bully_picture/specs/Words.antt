-- The words of a picture: how a node stands, and what a row does.
use Rattle.std.specs.Prelude.{ℕ, Bool, List, [], ◌++◌, ◌&&◌, Option, Some, None, codes, if◌then◌else◌}
use Rattle.std.specs.Fmt.{decimal}
use Rattle.bully_base.specs.declared.node.Status.{Status}
use Rattle.bully_calls.specs.declared.kind.EventKind.{EventKind}
use Rattle.bully_calls.specs.declared.kind.NodeEventKind.{NodeEventKind}
use Rattle.bully_trace.specs.Details.{same_status}
use Rattle.bully_world.specs.Turn.{same_node}
use Rattle.bully_film.specs.declared.scene.Scene.{Scene}
use Rattle.bully_film.specs.declared.snapshot.NodeSnapshot.{NodeSnapshot}
use Rattle.bully_film.specs.Lane.{is_orphan}

-- after these words the node that is followed; nothing where none is
abbrev pub behind_words : List ℕ → Option ℕ → List ℕ
behind_words between None = []
behind_words between (Some i) = between ++ decimal i ++ []

-- both have the same status and the same coordinator
abbrev pub is_same_stand : NodeSnapshot → NodeSnapshot → Bool
is_same_stand a b = same_status a.status b.status && same_node a.coordinator b.coordinator

-- a word of how a node stands, and after these words whom it follows
abbrev pub followed_text : List ℕ → List ℕ → Option ℕ → List ℕ
followed_text word between coordinator = word ++ behind_words between coordinator

-- what a node becomes by a move, which had one status before it and has the other after it
abbrev pub move_meaning : Status → Status → Option (List ℕ)
move_meaning Status.Election Status.Election = Some (codes "no higher node is up: stands for election")
move_meaning Status.Election Status.Reorganization = Some (codes "lower ones are halted: is coordinator")
move_meaning Status.Reorganization Status.Reorganization = Some (codes "all are told: plans")
move_meaning Status.Reorganization Status.Normal = Some (codes "all have the table: is normal")
move_meaning _ _ = None

-- what an event of this kind does, whose node stood so before it and stands so after it; none where its row alone says
-- it
abbrev pub meaning : Option EventKind → NodeSnapshot → NodeSnapshot → Option (List ℕ)
meaning (Some (EventKind.Node NodeEventKind.Move)) before after = move_meaning before.status after.status
meaning (Some (EventKind.Node NodeEventKind.Drop)) before after = Some (codes "the orphan is given up")
meaning (Some (EventKind.Node NodeEventKind.Return)) before after =
    if is_orphan before then Some (codes "an orphan: nothing comes of it") else None
meaning (Some EventKind.Plan) before after = Some (codes "shares the task out")
meaning _ before after = None

abbrev pub behind_colon : Option (List ℕ) → List ℕ
behind_colon None = []
behind_colon (Some words) = codes ": " ++ words

-- what comes after the text of a row: what it does; nothing of the row that decided, which did nothing
abbrev pub meaning_text : Bool → Scene → List ℕ
meaning_text is_decided s = if is_decided then [] else behind_colon (meaning s.event_kind s.own.before s.own.after)
