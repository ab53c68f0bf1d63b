-- An event changes the vector of one node at most, and that one is shown where it isn't the one before.
use Rattle.std.proofs.Common.{◌≡◌, ◌≢◌, ◌⊎◌, inl, inr, ◌∙◌, ℕ, ◌+◌, ◌&&◌, Bool, true, false, List, [], ◌∷◌, Option, refl, sym, ap, subst, arith, option_map}
use Rattle.std.proofs.lemmas.Bool.{and_parts}
use Rattle.std.proofs.lemmas.Slice.Eq.{bytes_eq-Decides}
use Rattle.bully_base.specs.declared.node.Status.{Status}
use Rattle.bully_base.specs.NodeSet.{IsFallingBelow}
use Rattle.bully_base.specs.Setup.{Setup, is_node}
use Rattle.bully_base.specs.NodeSetEq.{same_set}
use Rattle.bully_base.proofs.NodeSetLemmas.{IsFallingBelow-more, same_set_test}
use Rattle.bully_calls.specs.declared.call.Answer.{Answer}
use Rattle.bully_calls.specs.Pending.{Pending}
use Rattle.bully_calls.specs.declared.event.Event.{Event}
use Rattle.bully_handlers.specs.Vector.{Vector}
use Rattle.bully_world.specs.NodeInvariant.{WorldInvariant}
use Rattle.bully_world.specs.Step.{Step, ran}
use Rattle.bully_world.specs.Turn.{same_node}
use Rattle.bully_world.specs.World.{NodeState, World, vector}
use Rattle.bully_world.proofs.Events.{own_other}
use Rattle.bully_world.proofs.NodeInvariantLemmas.{lawful_fits, step_fits}
use Rattle.bully_world.proofs.RunInvariant.{ran_here, ran_other}
use Rattle.bully_rows.specs.Whole.{Whole, whole_of}
use Rattle.bully_trace.specs.Details.{is_true, is_whole, same_status, same_task}
use Rattle.bully_trace.proofs.SameLemmas.{node-within, status-is, status-itself, task-is, task-itself}
use Rattle.bully_annotate.specs.Annotated.{same_vector, shown_change, shown_row, shown_unless}
use Rattle.bully_world.specs.Place.{callee_or, place_of}
use Rattle.bully_world.proofs.AgreeLemmas.{node_is, node_itself}
use Rattle.bully_annotate.specs.Shown.{ShowsEachChange, ShowsNoMore, TellsTheVector}
use Rattle.bully_annotate.proofs.SaidLemmas.{set-itself, shown-true}

-- ---- what is the same

abbrev vector_with : Status → Option ℕ → Option ℕ → List ℕ → Option (List ℕ) → Vector
vector_with status coordinator halter up task = record { status = status; coordinator = coordinator; halter = halter; up = up; task = task }

same-with : {s s' : Status} {c c' h h' : Option ℕ} {u u' : List ℕ} {t t' : Option (List ℕ)} → s ≡ s' → c ≡ c' → h ≡ h' → u ≡ u' → t ≡ t'
    → vector_with s c h u t ≡ vector_with s' c' h' u' t'
same-with {s} {s'} {c} {c'} {h} {h'} {u} {u'} {t} {t'} es ec eh eu et =
    ap (λ x. vector_with x c h u t) es ∙ ap (λ x. vector_with s' x h u t) ec ∙ ap (λ x. vector_with s' c' x u t) eh ∙ ap (λ x. vector_with s' c' h' x t) eu
    ∙ ap (λ x. vector_with s' c' h' u' x) et

set-is : (bound : ℕ) (a b : List ℕ) → IsFallingBelow bound a → IsFallingBelow bound b → same_set a b ≡ true → a ≡ b
set-is bound a b falls other e = (bytes_eq-Decides a b).0 (sym (same_set_test bound a b true falls other (sym e)))

vector-is : (bound : ℕ) (a b : Vector) → IsFallingBelow bound a.up → IsFallingBelow bound b.up → same_vector a b ≡ true → a ≡ b
vector-is bound a b falls other e =
    let one = and_parts (same_status a.status b.status && same_node a.coordinator b.coordinator && same_node a.halter b.halter && same_set a.up b.up) (same_task a.task b.task) e in
    let two = and_parts (same_status a.status b.status && same_node a.coordinator b.coordinator && same_node a.halter b.halter) (same_set a.up b.up) one.0 in
    let three = and_parts (same_status a.status b.status && same_node a.coordinator b.coordinator) (same_node a.halter b.halter) two.0 in
    let four = and_parts (same_status a.status b.status) (same_node a.coordinator b.coordinator) three.0 in
    same-with (status-is a.status b.status four.0) (node_is a.coordinator b.coordinator four.1) (node_is a.halter b.halter three.1) (set-is bound a.up b.up falls other two.1)
    (task-is a.task b.task one.1)

-- ---- the others stay

-- the vector of node j is the one before
abbrev Stays : World → World → ℕ → Type 0
Stays w w' j = vector w' j ≡ vector w j

-- a run changes its callee alone
run-stays : (setup : Setup) (w : World) (i : ℕ) (w' : World) (a : Answer) (j : ℕ) → WorldInvariant setup w → Step setup w (Event.Run i) w' a
    → j ≢ place_of w (Event.Run i) → Stays w w' j
run-stays setup w i w' a j fits (c, at, sent, up, is, answered) other = rw is (by_case (grind arith))
  where
    callee : j ≢ c.call.callee
    callee e = other (e ∙ sym (ap (callee_or i) (ap (option_map (λ (p : Pending). p.call)) at)))

    by_case : (j ≡ i) ⊎ (j ≢ i) → Stays w (ran w i c) j
    by_case (inl e) = rw e (ap (λ (n : NodeState). n.vector) (ran_here setup w i c fits at up))
    by_case (inr apart) = ap (λ (n : NodeState). n.vector) (ran_other setup w i c fits at up j apart callee)

others-stay : (setup : Setup) (w : World) (e : Event) (w' : World) (a : Answer) (j : ℕ) → WorldInvariant setup w → Step setup w e w' a → j ≢ place_of w e → Stays w w' j
others-stay setup w (Event.Run i) w' a j fits step other = run-stays setup w i w' a j fits step other
others-stay setup w e w' a j fits step other = ap (λ (n : NodeState). n.vector) (own_other setup w w' e a j (λ i same. absurd (cc same)) step other)

-- ---- the laws

-- of the node whose vector the event may change
place-shown : (w w' : World) (p : ℕ) → IsFallingBelow p (vector w p).up → IsFallingBelow p (vector w' p).up → Stays w w' p ⊎ (shown_change w w' p ≡ shown_row w' p ∷ [])
place-shown w w' p falls after = by_same (same_vector (vector w p) (vector w' p)) refl
  where
    by_same : (b : Bool) → same_vector (vector w p) (vector w' p) ≡ b → Stays w w' p ⊎ (shown_unless b w' p ≡ shown_row w' p ∷ [])
    by_same true e = inl (sym (vector-is p (vector w p) (vector w' p) falls after e))
    by_same false e = inr refl

pub shows-each-change : ShowsEachChange
shows-each-change setup events answers w e w' a lawful step j = by_case (grind arith)
  where
    before : WorldInvariant setup w
    before = lawful_fits setup events answers w lawful

    after : WorldInvariant setup w'
    after = step_fits setup w e w' a step before

    by_case : (j ≡ place_of w e) ⊎ (j ≢ place_of w e) → Stays w w' j ⊎ (shown_change w w' (place_of w e) ≡ shown_row w' j ∷ [])
    by_case (inl is) =
        rw is (place-shown w w' (place_of w e) (before.fits (place_of w e)).by_setup.up (after.fits (place_of w e)).by_setup.up)
    by_case (inr other) = inl (others-stay setup w e w' a j before step other)

vector-itself : (v : Vector) → same_vector v v ≡ true
vector-itself v = rw (status-itself v.status, node_itself v.coordinator, node_itself v.halter, task-itself v.task) (set-itself v.up)

pub shows-no-more : ShowsNoMore
shows-no-more w w' i same = rw (same, vector-itself (vector w i)) refl

whole-same : (whole : Whole) (v : Vector) → whole.claim.status ≡ v.status → whole.claim.coordinator ≡ v.coordinator → v.halter ≡ whole.halter → v.up ≡ whole.up → v.task ≡ whole.task
    → whole ≡ whole_of whole.claim.node v
whole-same whole v status coordinator halter up task =
    ap (whole_of whole.claim.node) (same-with status coordinator (sym halter) (sym up) (sym task))

pub tells-the-vector : TellsTheVector
tells-the-vector setup events answers w whole bound lawful falls = (
  λ e.
      let one = and_parts (is_true setup w whole.claim && same_node (vector w whole.claim.node).halter whole.halter && same_set (vector w whole.claim.node).up whole.up) (same_task (vector w whole.claim.node).task whole.task) e in
      let two = and_parts (is_true setup w whole.claim && same_node (vector w whole.claim.node).halter whole.halter) (same_set (vector w whole.claim.node).up whole.up) one.0 in
      let three = and_parts (is_true setup w whole.claim) (same_node (vector w whole.claim.node).halter whole.halter) two.0 in
      let four = and_parts (is_node setup whole.claim.node && same_status whole.claim.status (vector w whole.claim.node).status) (same_node whole.claim.coordinator (vector w whole.claim.node).coordinator) three.0 in
      let five = and_parts (is_node setup whole.claim.node) (same_status whole.claim.status (vector w whole.claim.node).status) four.0 in (
        node-within setup whole.claim.node five.0,
        whole-same whole (vector w whole.claim.node)
            (status-is whole.claim.status (vector w whole.claim.node).status five.1)
            (node_is whole.claim.coordinator (vector w whole.claim.node).coordinator four.1)
            (node_is (vector w whole.claim.node).halter whole.halter three.1)
            (set-is (whole.claim.node + bound) (vector w whole.claim.node).up whole.up
            (IsFallingBelow-more whole.claim.node (whole.claim.node + bound) (vector w whole.claim.node).up (omega arith) (fits.fits whole.claim.node).by_setup.up)
            (IsFallingBelow-more bound (whole.claim.node + bound) whole.up (omega arith) falls) two.1)
            (task-is (vector w whole.claim.node).task whole.task one.1),
      ),
  λ is. subst (λ (x : Whole). is_whole setup w x ≡ true) (sym is.1) (shown-true setup w whole.claim.node is.0),
)
  where
    fits : WorldInvariant setup w
    fits = lawful_fits setup events answers w lawful
