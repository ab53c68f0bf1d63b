-- The kinds of steps of the turn rule: each that it offers is possible, and the procedure that goes on by it is in step again.
use Rattle.std.proofs.Common.{◌≡◌, ℕ, ◌<◌, Bool, true, false, List, [], length, Option, Some, None, arith, refl, sym, ◌∙◌, ap, subst, IfSome, unwrap_or}
use Rattle.std.specs.Option.{option_map_or}
use Rattle.std.proofs.lemmas.Bool.Decides.{nat_tests}
use Rattle.bully_base.specs.NodeSet.{with_node}
use Rattle.bully_base.specs.Setup.{Setup, IsNode}
use Rattle.bully_table.specs.Balance.{is_balanced}
use Rattle.bully_table.proofs.BalanceLemmas.{is_balanced_decides}
use Rattle.bully_calls.specs.declared.call.Phase.{Phase}
use Rattle.bully_calls.specs.Pending.{Pending, is_sent, outcome_of}
use Rattle.bully_steps.specs.declared.point.Point.{Point}
use Rattle.bully_steps.specs.declared.point.Point.TheVariants.{Readying}
use Rattle.bully_steps.specs.declared.point.Want.{Want}
use Rattle.bully_steps.specs.ProcedureState.{ProcedureState, IsProcedureState, IsPlannedOver, want_of, CanCome, CanResume, is_started, resumed}
use Rattle.bully_steps.specs.Point.{offered}
use Rattle.bully_calls.specs.declared.event.Event.{Event}
use Rattle.bully_world.specs.declared.turn.Next.{Next}
use Rattle.bully_world.specs.declared.turn.StepKind.{StepKind}
use Rattle.bully_world.specs.Cause.{cause, is_call, is_down_at, is_live_in}
use Rattle.bully_world.specs.NodeInvariant.{WorldInvariant}
use Rattle.bully_world.specs.Step.{IsUp, offer, Step, Returns, sent, emptied}
use Rattle.bully_world.specs.Turn.{turn_of_call, turn_of_want, turn_in_step, event_with, has_table, kind_of_step, step_event, outcome_after, procedure_after}
use Rattle.bully_world.specs.World.{World, NodeState, node_state, vector, pending, point, with_node_state}
use Rattle.bully_world.proofs.AgreeLemmas.{Agrees, resumed_agrees}
use Rattle.bully_world.proofs.NodeStateLemmas.{node_of_up, node_of_pending, node_state_here, call_of_pending}
use Rattle.bully_calls.specs.declared.call.Answer.{Answer}
use Rattle.bully_calls.specs.declared.call.Outcome.{Outcome}
use Rattle.bully_handlers.specs.Vector.{Vector}
use Rattle.bully_steps.specs.NextPoint.{next_point, next_vector}
use Rattle.bully_world.proofs.MoveInvariant.{planning_up}
use Rattle.bully_world.proofs.TurnSteps.{shown, wants, same_kind, up_if, planned_suits}
use Rattle.bully_world.proofs.ProcedureAfter.{started_stays, started_vector, can_come, came_back}

-- ---- what is offered is possible

start_possible : (setup : Setup) (w : World) (count i : ℕ) → count < setup.events_max → IsNode setup i → IsUp w i → pending w i ≡ None → is_call (offer setup w i) ≡ true → cause setup w count (Event.Start i) ≡ None
start_possible setup w count i room node up free offers = grind (arith, nat_tests, room, node, up, free, offers)

move_possible : (setup : Setup) (w : World) (count i : ℕ) → count < setup.events_max → IsNode setup i → IsUp w i → pending w i ≡ None → offer setup w i ≡ Want.Move → cause setup w count (Event.Move i) ≡ None
move_possible setup w count i room node up free offers = grind (arith, nat_tests, room, node, up, free, offers)

plan_possible : (setup : Setup) (w : World) (count i : ℕ) (table : List ℕ) → count < setup.events_max → IsNode setup i → IsUp w i → pending w i ≡ None → offer setup w i ≡ Want.Plan → length table ≡ setup.partitions
    → is_balanced setup table (with_node i (vector w i).up) ≡ true → cause setup w count (Event.Plan i table) ≡ None
plan_possible setup w count i table room node up free offers size balanced = grind (arith, nat_tests, room, node, up, free, offers, size, balanced)

lose_possible : (setup : Setup) (w : World) (count i : ℕ) (c : Pending) → count < setup.events_max → IsNode setup i → IsUp w i → pending w i ≡ Some c → c.phase ≡ Phase.Sent → is_down_at w c.call.callee ≡ true → cause setup w count (Event.Lose i) ≡ None
lose_possible setup w count i c room node up is phase down = grind (arith, nat_tests, room, node, up, is, phase, down)

return_possible : (setup : Setup) (w : World) (count i : ℕ) (c : Pending) → count < setup.events_max → IsNode setup i → IsUp w i → pending w i ≡ Some c → is_sent c.phase ≡ false → cause setup w count (Event.Return i) ≡ None
return_possible setup w count i c room node up is come = grind (arith, nat_tests, room, node, up, is, come)

drop_possible : (setup : Setup) (w : World) (count i : ℕ) (c : Pending) → count < setup.events_max → IsNode setup i → IsUp w i → pending w i ≡ Some c → c.is_live ≡ false → cause setup w count (Event.Drop i) ≡ None
drop_possible setup w count i c room node up is orphan = grind (arith, nat_tests, room, node, up, is, orphan)

module _ (setup : Setup) (w : World) (count i g : ℕ) (h : ProcedureState) (kind : StepKind) (all : WorldInvariant setup w) (is : IsProcedureState h) (se : h.setup ≡ setup) (ne : h.node ≡ i) (a : Agrees h (shown setup i g (node_state w i))) (room : count < setup.events_max) where
  abbrev Possible : StepKind → Type 0
  Possible k = cause setup w count (event_with (kind_of_step k) i h.table) ≡ None

  -- where the slot is empty, what is wanted
  want_possible : (b : Bool) (q : Want) → pending w i ≡ None → has_table h ≡ b → want_of h ≡ q → turn_of_want b q ≡ Next.Take kind → Possible kind
  want_possible b (Want.Start call) free has is_wanted t =
      let offers : is_call (offer setup w i) ≡ true = ap is_call (sym (wants setup i g (node_state w i) h se a free) ∙ is_wanted) in
      let up : IsUp w i = up_if setup i (node_state w i) (all.fits i) (λ e. grind (arith, e, offers)) in
      subst Possible (same_kind StepKind.Start kind t) (start_possible setup w count i room (node_of_up setup w i all up) up free offers)
  want_possible b Want.Move free has is_wanted t =
      let offers : offer setup w i ≡ Want.Move = sym (wants setup i g (node_state w i) h se a free) ∙ is_wanted in
      let up : IsUp w i = up_if setup i (node_state w i) (all.fits i) (λ e. grind (arith, e, offers)) in
      subst Possible (same_kind StepKind.Move kind t) (move_possible setup w count i room (node_of_up setup w i all up) up free offers)
  want_possible true Want.Plan free has is_wanted t =
      let offers : offer setup w i ≡ Want.Plan = sym (wants setup i g (node_state w i) h se a free) ∙ is_wanted in
      let up : IsUp w i = up_if setup i (node_state w i) (all.fits i) (λ e. grind (arith, e, offers)) in
      let plan = planned_suits h is has in
      let over : IsPlannedOver setup i (vector w i).up (unwrap_or h.table []) = grind (arith, se, ne, plan, a.up, a.point) in
      let balanced = (is_balanced_decides setup (unwrap_or h.table []) (with_node i (vector w i).up)).1 over.balanced in
      subst Possible (same_kind StepKind.Plan kind t) (plan_possible setup w count i (unwrap_or h.table []) room (node_of_up setup w i all up) up free offers over.partitions balanced)
  want_possible b q free has is_wanted t = absurd (grind (arith, t))

  -- where it holds a call, what that one's phase and callee say
  call_possible : (c : Pending) (down live : Bool) (f : Phase) → pending w i ≡ Some c → is_down_at w c.call.callee ≡ down → c.is_live ≡ live → c.phase ≡ f → turn_of_call down live f ≡ Next.Take kind → Possible kind
  call_possible c true live Phase.Sent there down lives at t =
      let node = node_of_pending setup w i c all there in
      subst Possible (same_kind StepKind.Lose kind t) (lose_possible setup w count i c room node.0 node.1 there at down)
  call_possible c false false Phase.Sent there down lives at t =
      let node = node_of_pending setup w i c all there in
      subst Possible (same_kind StepKind.Drop kind t) (drop_possible setup w count i c room node.0 node.1 there lives)
  call_possible c false true Phase.Sent there down lives at t = absurd (grind (arith, t))
  call_possible c b live (Phase.Ran answer) there down lives at t =
      let node = node_of_pending setup w i c all there in
      subst Possible (same_kind StepKind.Return kind t) (return_possible setup w count i c room node.0 node.1 there (ap is_sent at))
  call_possible c b live Phase.Failed there down lives at t =
      let node = node_of_pending setup w i c all there in
      subst Possible (same_kind StepKind.Return kind t) (return_possible setup w count i c room node.0 node.1 there (ap is_sent at))

  slot_possible : (q : Option Pending) → pending w i ≡ q → turn_in_step w q h ≡ Next.Take kind → Possible kind
  slot_possible None free t = want_possible (has_table h) (want_of h) free refl refl t
  slot_possible (Some c) there t = call_possible c (is_down_at w c.call.callee) c.is_live c.phase there refl refl refl t

  -- a step that the turn rule offers is refused only where the bound is reached
  pub offered_possible : turn_in_step w (pending w i) h ≡ Next.Take kind → cause setup w count (step_event kind h) ≡ None
  offered_possible t = subst (λ k. cause setup w count (event_with (kind_of_step kind) k h.table) ≡ None) (sym ne) (slot_possible (pending w i) refl t)

-- ---- the procedure goes on as its node does

module _ (setup : Setup) (w : World) (i g : ℕ) (h : ProcedureState) (all : WorldInvariant setup w) (se : h.setup ≡ setup) (ne : h.node ≡ i) (a : Agrees h (shown setup i g (node_state w i))) where
  -- it goes on as its node does
  goes_on : (o : Outcome) (q : Point) (m : NodeState) → next_point setup i (vector w i).up (point w i) o ≡ Some q → m.point ≡ q → m.vector.up ≡ (next_vector i (point w i) o (vector w i)).up
      → m.vector.coordinator ≡ (next_vector i (point w i) o (vector w i)).coordinator → is_live_in m.pending ≡ is_started o → Agrees (resumed h o) (shown setup i g m)
  goes_on o q m e at up coordinator live =
      let r = resumed_agrees setup i g (point w i) (vector w i) (is_live_in (pending w i)) o q h se ne a e in
      record {
        generation = r.generation;
        point = r.point ∙ sym at;
        awaits = r.awaits ∙ sym live;
        up = grind (arith, r.up, at, up);
        coordinator = grind (arith, r.coordinator, at, coordinator);
      }

  -- it stays as it is where its node's point and vector do, and its live call
  stays : (m : NodeState) → m.point ≡ point w i → m.vector ≡ vector w i → is_live_in m.pending ≡ is_live_in (pending w i) → Agrees h (shown setup i g m)
  stays m at v live = record {
    generation = a.generation;
    point = a.point ∙ sym at;
    awaits = a.awaits ∙ sym live;
    up = grind (arith, a.up, at, v);
    coordinator = grind (arith, a.coordinator, at, v);
  }

  abbrev GoesOn : StepKind → World → Answer → Type 0
  GoesOn kind w' answer = Agrees (procedure_after kind answer h) (shown setup i g (node_state w' i)) × IfSome (outcome_after kind answer) (CanResume h)

  here : (m : NodeState) → IsNode setup i → node_state (with_node_state w i m) i ≡ m
  here m node = node_state_here setup w i m all node

  start_on : (w' : World) (answer : Answer) → Step setup w (Event.Start i) w' answer → GoesOn StepKind.Start w' answer
  start_on w' answer s =
      let m : NodeState = record (node_state w i) { pending = Some (sent s.2 (vector w i)) } in
      let there : node_state w' i ≡ m = ap (λ x. node_state x i) s.4 ∙ here m (node_of_up setup w i all s.0) in
      let next = started_stays setup i (vector w i).up (vector w i).coordinator (point w i) s.2 s.3 in
      let same = started_vector i (point w i) (vector w i) in
      let want : want_of h ≡ Want.Start s.2 = wants setup i g (node_state w i) h se a s.1 ∙ s.3 in (
        subst (λ x. Agrees (resumed h Outcome.Started) (shown setup i g x)) (sym there)
            (goes_on Outcome.Started (point w i) m next refl (ap (λ (v : Vector). v.up) (sym same)) (ap (λ (v : Vector). v.coordinator) (sym same)) refl),
        subst (λ q. CanCome q h.point Outcome.Started) (sym want) tt,
      )

  move_on : (w' : World) (answer : Answer) → Step setup w (Event.Move i) w' answer → GoesOn StepKind.Move w' answer
  move_on w' answer s =
      let m : NodeState = record { vector = next_vector i (point w i) Outcome.Moved (vector w i); point = s.3.0; pending = None } in
      let there : node_state w' i ≡ m = ap (λ x. node_state x i) s.3.2 ∙ here m (node_of_up setup w i all s.0) in
      let want : want_of h ≡ Want.Move = wants setup i g (node_state w i) h se a s.1 ∙ s.2 in (
        subst (λ x. Agrees (resumed h Outcome.Moved) (shown setup i g x)) (sym there) (goes_on Outcome.Moved s.3.0 m s.3.1 refl refl refl refl),
        subst (λ q. CanCome q h.point Outcome.Moved) (sym want) tt,
      )

  plan_on : (table : List ℕ) (w' : World) (answer : Answer) → Step setup w (Event.Plan i table) w' answer → GoesOn StepKind.Plan w' answer
  plan_on table w' answer s =
      let m : NodeState = record { vector = record (vector w i) { task = Some table }; point = Readying (vector w i).up; pending = None } in
      let up : IsUp w i = planning_up setup i (node_state w i) (all.fits i) s.0 in
      let there : node_state w' i ≡ m = ap (λ x. node_state x i) s.4 ∙ here m (node_of_up setup w i all up) in
      let want : want_of h ≡ Want.Plan = wants setup i g (node_state w i) h se a s.1 ∙ ap (offered setup (vector w i).coordinator) s.0 in (
        subst (λ x. Agrees (resumed h Outcome.Planned) (shown setup i g x)) (sym there)
            (goes_on Outcome.Planned (Readying (vector w i).up) m (ap (λ p. next_point setup i (vector w i).up p Outcome.Planned) s.0) refl (ap (λ p. (next_vector i p Outcome.Planned (vector w i)).up) (sym s.0))
            (ap (λ p. (next_vector i p Outcome.Planned (vector w i)).coordinator) (sym s.0)) refl),
        subst (λ q. CanCome q h.point Outcome.Planned) (sym want) tt,
      )

  lose_on : (w' : World) (answer : Answer) → Step setup w (Event.Lose i) w' answer → GoesOn StepKind.Lose w' answer
  lose_on w' answer s =
      let m : NodeState = record (node_state w i) { pending = Some (record s.0 { phase = Phase.Failed }) } in
      let there : node_state w' i ≡ m = ap (λ x. node_state x i) s.4 ∙ here m (node_of_pending setup w i s.0 all s.1).0 in
      (subst (λ x. Agrees h (shown setup i g x)) (sym there) (stays m refl refl (ap is_live_in (sym s.1))), tt)

  -- it stays as it is where an orphan is taken out of its node's slot
  orphan_out : (c : Pending) (w' : World) → pending w i ≡ Some c → c.is_live ≡ false → w' ≡ emptied w i → Agrees h (shown setup i g (node_state w' i))
  orphan_out c w' is orphan becomes =
      let m : NodeState = record (node_state w i) { pending = None } in
      let there : node_state w' i ≡ m = ap (λ x. node_state x i) becomes ∙ here m (node_of_pending setup w i c all is).0 in
      subst (λ x. Agrees h (shown setup i g x)) (sym there) (stays m refl refl (sym orphan ∙ ap is_live_in (sym is)))

  return_by : (c : Pending) (o : Outcome) (w' : World) (answer : Answer) → pending w i ≡ Some c → outcome_of c.phase ≡ Some o → (b : Bool) → c.is_live ≡ b → Returns setup w i b o w' answer → GoesOn StepKind.Return w' answer
  return_by c o w' answer is done true live r =
      let m : NodeState = record { vector = next_vector i (point w i) o (vector w i); point = r.0.0; pending = None } in
      let there : node_state w' i ≡ m = ap (λ x. node_state x i) r.0.2 ∙ here m (node_of_pending setup w i c all is).0 in
      let back = came_back c.phase o done in
      let after : outcome_after StepKind.Return answer ≡ Some o = ap (outcome_after StepKind.Return) r.1 ∙ back.1 in
      let call = call_of_pending setup w i c all is in
      let want : want_of h ≡ Want.Await = grind (arith, a.awaits, is, live) in
      let on : Agrees (resumed h o) (shown setup i g (node_state w' i)) = subst (λ x. Agrees (resumed h o) (shown setup i g x)) (sym there) (goes_on o r.0.0 m r.0.1 refl refl refl (sym back.0)) in
      let can : CanResume h o = subst (λ q. CanCome q h.point o) (sym want) (subst (λ p. CanCome Want.Await p o) (sym a.point) (can_come setup (vector w i).coordinator (point w i) c.call c.phase o (call.live live) call.phase done)) in
      (subst (λ q. Agrees (option_map_or (resumed h) q h) (shown setup i g (node_state w' i))) (sym after) on, subst (λ q. IfSome q (CanResume h)) (sym after) can)
  return_by c o w' answer is done false live r =
      let after : outcome_after StepKind.Return answer ≡ None = ap (outcome_after StepKind.Return) r.1 in
      (subst (λ q. Agrees (option_map_or (resumed h) q h) (shown setup i g (node_state w' i))) (sym after) (orphan_out c w' is live r.0), subst (λ q. IfSome q (CanResume h)) (sym after) tt)

  kind_on : (kind : StepKind) (w' : World) (answer : Answer) → Step setup w (event_with (kind_of_step kind) i h.table) w' answer → GoesOn kind w' answer
  kind_on StepKind.Start w' answer s = start_on w' answer s
  kind_on StepKind.Move w' answer s = move_on w' answer s
  kind_on StepKind.Plan w' answer s = plan_on (unwrap_or h.table []) w' answer s
  kind_on StepKind.Lose w' answer s = lose_on w' answer s
  kind_on StepKind.Drop w' answer s = (orphan_out s.0 w' s.1 s.2 s.3, tt)
  kind_on StepKind.Return w' answer s = return_by s.0 s.1 w' answer s.2 s.3 s.0.is_live refl s.4

  -- after each step of the turn rule
  pub step_on : (kind : StepKind) (w' : World) (answer : Answer) → Step setup w (step_event kind h) w' answer → GoesOn kind w' answer
  step_on kind w' answer s = kind_on kind w' answer (subst (λ k. Step setup w (event_with (kind_of_step kind) k h.table) w' answer) ne s)
