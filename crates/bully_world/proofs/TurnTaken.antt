-- The steps of a world's turns, as its readers have them.
use Rattle.std.proofs.Common.{◌≡◌, ℕ, ◌+◌, ◌<◌, Bool, true, false, None, arith, refl, sym, ◌∙◌, ap, subst, IfSome, if◌then◌else◌}
use Rattle.std.specs.Option.{option_map_or}
use Rattle.bully_calls.specs.declared.call.Answer.{Answer}
use Rattle.bully_steps.specs.ProcedureState.{ProcedureState, IsProcedureState, CanResume, resumed}
use Rattle.bully_calls.specs.declared.event.Event.{Event}
use Rattle.bully_world.specs.declared.turn.Next.{Next}
use Rattle.bully_world.specs.declared.turn.StepKind.{StepKind}
use Rattle.bully_world.specs.State.{WorldState, IsReached, state_at, node_state_of, world_of, cause_in, KeepsGenerations, RaisesGenerations}
use Rattle.bully_world.specs.Step.{Step}
use Rattle.bully_world.specs.Turn.{turn, turn_in_step, is_in_step, procedure_in, step_event, outcome_after, procedure_after, procedure_left, outcome_left, agree, has_table}
use Rattle.bully_world.specs.World.{NodeState, node_state, pending}
use Rattle.bully_world.proofs.AgreeLemmas.{Agrees, agrees_of, agree_if}
use Rattle.bully_world.proofs.ProcedureAfter.{identity_after}
use Rattle.bully_world.proofs.StepKinds.{offered_possible, step_on}
use Rattle.bully_world.proofs.WorldIn.{node_state-world_in}
use Rattle.bully_world.proofs.TurnLemmas.{reached_fits}
use Rattle.bully_world.proofs.TurnSteps.{shown, plan_offered, turn_own}
use Rattle.bully_world.proofs.OwnEvents.{own_raises_nothing}

-- a step is offered only in step, by the call in the slot
pub taken_in_step : (w : WorldState) (h : ProcedureState) (kind : StepKind) → turn w h ≡ Next.Take kind
    → Agrees h (shown w.setup h.node (state_at w h.node).generation (node_state (world_of w) h.node)) × (turn_in_step (world_of w) (pending (world_of w) h.node) h ≡ Next.Take kind)
taken_in_step w h kind t = by_test (is_in_step w h) refl t
  where
    here : node_state_of (state_at w h.node) ≡ node_state (world_of w) h.node
    here = sym (node_state-world_in w.states h.node)

    by_test : (b : Bool) → is_in_step w h ≡ b → (if b then turn_in_step (world_of w) (node_state_of (state_at w h.node)).pending h else Next.Resync) ≡ Next.Take kind
        → Agrees h (shown w.setup h.node (state_at w h.node).generation (node_state (world_of w) h.node)) × (turn_in_step (world_of w) (pending (world_of w) h.node) h ≡ Next.Take kind)
    by_test true e t = (
      subst (λ m. Agrees h (shown w.setup h.node (state_at w h.node).generation m)) here (agrees_of h (procedure_in w h.node) e),
      ap (λ (m : NodeState). turn_in_step (world_of w) m.pending h) (sym here) ∙ t,
    )
    by_test false e t = absurd (grind (arith, t))

pub free_if_offered : (w : WorldState) (h : ProcedureState) (kind : StepKind) → IsReached w → IsProcedureState h → h.setup ≡ w.setup → turn w h ≡ Next.Take kind → w.events < w.setup.events_max → cause_in w (step_event kind h) ≡ None
free_if_offered w h kind reached is se t room =
    let taken = taken_in_step w h kind t in
    offered_possible w.setup (world_of w) w.events h.node (state_at w h.node).generation h kind (reached_fits w reached) is se refl taken.0 room taken.1

pub table_if_planned : (w : WorldState) (h : ProcedureState) (kind : StepKind) → turn w h ≡ Next.Take kind → kind ≡ StepKind.Plan → has_table h ≡ true
table_if_planned w h kind t e = plan_offered (world_of w) (pending (world_of w) h.node) h ((taken_in_step w h kind t).1 ∙ ap Next.Take e)

-- the procedure goes on by the step, and is in step with the world after it
pub goes_on_taken : (w w' : WorldState) (h : ProcedureState) (kind : StepKind) (answer : Answer) → IsReached w → h.setup ≡ w.setup → turn w h ≡ Next.Take kind → w'.setup ≡ w.setup
    → ((i : ℕ) → (state_at w' i).generation ≡ (state_at w i).generation) → Step w.setup (world_of w) (step_event kind h) (world_of w') answer
    → (is_in_step w' (procedure_after kind answer h) ≡ true) × IfSome (outcome_after kind answer) (CanResume h)
goes_on_taken w w' h kind answer reached se t same generation s =
    let taken = taken_in_step w h kind t in
    let on = step_on w.setup (world_of w) h.node (state_at w h.node).generation h (reached_fits w reached) se refl taken.0 kind (world_of w') answer s in
    let there = node_state-world_in w'.states h.node in
    let shows : shown w.setup h.node (state_at w h.node).generation (node_state (world_of w') h.node) ≡ procedure_in w' h.node =
    ap (shown w.setup h.node (state_at w h.node).generation) there ∙ (rw (← generation h.node, ← same) refl) in
    let agrees : agree (procedure_after kind answer h) (procedure_in w' h.node) ≡ true = agree_if (procedure_after kind answer h) (procedure_in w' h.node) (subst (Agrees (procedure_after kind answer h)) shows on.0) in
    (ap (λ k. agree (procedure_after kind answer h) (procedure_in w' k)) (identity_after kind answer h).1 ∙ agrees, on.1)

-- the procedure that the event leaves goes on as the whole step says
pub can_go_on : (kind : StepKind) (answer : Answer) (h left : ProcedureState) → left ≡ procedure_left kind h → IfSome (outcome_after kind answer) (CanResume h) → IfSome (outcome_left kind answer) (CanResume left)
can_go_on StepKind.Plan answer h left e can = tt
can_go_on kind answer h left e can = subst (λ x. IfSome (outcome_after kind answer) (CanResume x)) (sym e) can

pub gone_on : (kind : StepKind) (answer : Answer) (h left : ProcedureState) → left ≡ procedure_left kind h → option_map_or (resumed left) (outcome_left kind answer) left ≡ procedure_after kind answer h
gone_on StepKind.Plan answer h left e = e
gone_on kind answer h left e = ap (λ x. option_map_or (resumed x) (outcome_after kind answer) x) e

-- a turn's event raises no generation
pub no_turn_raises : (before after : WorldState) (kind : StepKind) (h : ProcedureState) → KeepsGenerations before after → RaisesGenerations (step_event kind h) before after
no_turn_raises before after kind h keeps i =
    subst (λ (b : Bool). (state_at after i).generation ≡ (state_at before i).generation + (if b then 1 else 0)) (sym (own_raises_nothing (world_of before) h.node i (step_event kind h) (turn_own kind h))) (omega (arith, keeps i))

keeps_generations : (kind : StepKind) (h : ProcedureState) (before after : WorldState) → RaisesGenerations (step_event kind h) before after → KeepsGenerations before after
keeps_generations kind h before after raised i =
    let same : (state_at after i).generation ≡ (state_at before i).generation + 0 =
    subst (λ (b : Bool). (state_at after i).generation ≡ (state_at before i).generation + (if b then 1 else 0)) (own_raises_nothing (world_of before) h.node i (step_event kind h) (turn_own kind h)) (raised i) in
    omega (arith, same)

-- the same, of an event that was applied
pub applied_goes_on : (w w' : WorldState) (h : ProcedureState) (kind : StepKind) (e : Event) (answer : Answer) → IsReached w → h.setup ≡ w.setup → turn w h ≡ Next.Take kind → e ≡ step_event kind h → w'.setup ≡ w.setup
    → Step w.setup (world_of w) e (world_of w') answer
    → RaisesGenerations e w w'
    → (is_in_step w' (procedure_after kind answer h) ≡ true) × IfSome (outcome_after kind answer) (CanResume h)
applied_goes_on w w' h kind e answer reached se t named same step raised =
    goes_on_taken w w' h kind answer reached se t same
    (keeps_generations kind h w w' (subst (λ x. RaisesGenerations x w w') named raised))
    (subst (λ x. Step w.setup (world_of w) x (world_of w') answer) named step)
