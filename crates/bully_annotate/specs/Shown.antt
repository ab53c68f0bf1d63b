-- What claims of whole vectors show: after an event each vector that it changed, and of a node all of its vector.
use Rattle.std.specs.Prelude.{◌≡◌, ◌↔◌, ◌⊎◌, ℕ, true, List, [], ◌∷◌}
use Rattle.bully_base.specs.NodeSet.{IsFallingBelow}
use Rattle.bully_base.specs.Setup.{IsNode, Setup}
use Rattle.bully_calls.specs.declared.call.Answer.{Answer}
use Rattle.bully_calls.specs.declared.event.Event.{Event}
use Rattle.bully_world.specs.Lawful.{IsLawful}
use Rattle.bully_world.specs.Step.{Step}
use Rattle.bully_world.specs.World.{World, vector}
use Rattle.bully_rows.specs.Whole.{Whole, whole_of}
use Rattle.bully_trace.specs.Details.{is_whole}
use Rattle.bully_annotate.specs.Annotated.{shown_change, shown_row}
use Rattle.bully_world.specs.Place.{place_of}

-- after each event that is possible after a lawful list the vector of each node that it changed is shown
abbrev pub ShowsEachChange : Type 0
ShowsEachChange =
    (setup : Setup) (events : List Event) (answers : List Answer) (w : World) (e : Event) (w' : World) (a : Answer)
    → IsLawful setup events answers w → Step setup w e w' a
    → (j : ℕ) → (vector w' j ≡ vector w j) ⊎ (shown_change w w' (place_of w e) ≡ shown_row w' j ∷ [])

-- where the node's vector is the one before, nothing is shown
abbrev pub ShowsNoMore : Type 0
ShowsNoMore = (w : World) (w' : World) (i : ℕ) → vector w' i ≡ vector w i → shown_change w w' i ≡ []

-- a claim that tells all of a vector is true exactly where it is all of that node's vector
abbrev pub TellsTheVector : Type 0
TellsTheVector =
    (setup : Setup) (events : List Event) (answers : List Answer) (w : World) (whole : Whole) (bound : ℕ)
    → IsLawful setup events answers w → IsFallingBelow bound whole.up
    → (is_whole setup w whole ≡ true)
    ↔ (IsNode setup whole.claim.node × (whole ≡ whole_of whole.claim.node (vector w whole.claim.node)))
