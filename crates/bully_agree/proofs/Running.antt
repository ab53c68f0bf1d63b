-- A call runs: its callee hears it first, then its caller's call has run.
use Rattle.std.proofs.Common.{◌≡◌, ◌≢◌, ℕ, ◌+◌, ◌≤◌, Bool, true, false, Option, Some, None, ◌⊎◌, arith, refl, subst, sym, ap, ◌∙◌, inl, inr, ◌&&◌, option_map}
use Rattle.bully_base.specs.declared.node.Status.TheVariants.{Election}
use Rattle.bully_base.specs.Setup.{Setup, IsNode}
use Rattle.bully_calls.specs.declared.call.Answer.{Answer}
use Rattle.bully_calls.specs.declared.call.CallKind.{CallKind}
use Rattle.bully_calls.specs.declared.call.CallKind.TheVariants.{AreYouUp, AreYouNormal, Halt, NewCoordinator, Ready}
use Rattle.bully_calls.specs.declared.call.Phase.{Phase}
use Rattle.bully_calls.specs.Pending.{Pending, orphan_of}
use Rattle.bully_handlers.specs.Handler.{callee_after, reply}
use Rattle.bully_handlers.specs.Vector.{Vector, names, is_election, is_reorganization}
use Rattle.bully_steps.specs.declared.point.Point.{Point}
use Rattle.bully_steps.specs.declared.point.Point.TheVariants.{Idle}
use Rattle.bully_world.proofs.NodeInvariantLemmas.{node_of_up, call_of_pending, node_state_here, node_state_other, callee_other, ran_here, ran_there, ran_other}
use Rattle.bully_world.specs.NodeInvariant.{WorldInvariant, SuitsCall}
use Rattle.bully_world.specs.Step.{IsUp, called, stopped_by, ran}
use Rattle.bully_world.specs.World.{World, NodeState, node_state, vector, point, pending, with_node_state}
use Rattle.bully_agree.proofs.Changes.Follows.{follows}
use Rattle.bully_agree.proofs.Changes.Joins.{joins}
use Rattle.bully_agree.proofs.Changes.Passes.{passes}
use Rattle.bully_agree.proofs.Changes.Shrinks.{Shrinks, calls_on, shrinks, unmoved}
use Rattle.bully_agree.proofs.Fitting.{summary, summary_at, summary_of, turns, written, all_local}
use Rattle.bully_agree.proofs.NodeSummary.{NodeSummary, Origin, GroupInvariant, Turns}

-- the caller
module _ (setup : Setup) (i : ℕ) (v : Vector) (p : Point) (c : Pending) (a : Answer) (suits : SuitsCall setup i v p c) (was_sent : c.phase ≡ Phase.Sent) where
  abbrev before : NodeSummary
  before = summary setup.nodes i v p (Some c)

  abbrev after : NodeSummary
  after = summary setup.nodes i v p (Some (record c { phase = Phase.Ran a }))

  -- nothing more was passed, but by a live Halt
  quiet : (f : ℕ → NodeSummary) → (c.call.kind ≢ Halt) ⊎ (c.is_live ≡ false) → Shrinks f i before after
  quiet f x = calls_on refl (grind (arith, was_sent)) (grind (arith, was_sent, x, suits)) (λ k e. grind arith) (λ k e. grind arith)

  halting : c.call.kind ≡ Halt → c.is_live ≡ true → (before.passed ≡ c.call.callee + 1) × (after ≡ record before { passed = c.call.callee })
  halting e live = grind (arith, suits.live live, was_sent, e)

  silent : c.call.kind ≡ Halt → before.announces ≡ None
  silent e = grind (arith, e)

  far : c.call.kind ≡ Halt → c.call.callee ≤ before.passed
  far e = grind (arith, suits.live, suits.orphan, suits.callee, was_sent, e)

-- a callee d that is halted by i
halted_shrinks : (setup : Setup) (i d : ℕ) (v : Vector) (p : Point) (q : Option Pending) (f : ℕ → NodeSummary) → (f i).announces ≡ None → d ≤ (f i).passed
    → Shrinks f d (summary setup.nodes d v p q) (summary setup.nodes d (record v { status = Election; halter = Some i }) Idle (option_map orphan_of q))
halted_shrinks setup i d v p q f none far = record {
  asked = λ k l a. grind arith;
  passed = λ k l a. grind arith;
  halts = λ h. grind arith;
  halted = λ m h e. grind (arith, none, far);
  takes_part_on = λ h. grind arith;
  leads_on = λ h. grind arith;
  announces_on = λ k e. grind arith;
  readies_on = λ k e. grind arith;
}

module _ {last : Origin} (setup : Setup) (w : World) (i : ℕ) (c : Pending) (all : WorldInvariant setup w) (kept : GroupInvariant last (summary_of setup w)) (is : pending w i ≡ Some c) (was_sent : c.phase ≡ Phase.Sent) (up : IsUp w c.call.callee) where
  suits : SuitsCall setup i (vector w i) (point w i) c
  suits = call_of_pending setup w i c all is

  there : IsNode setup c.call.callee
  there = node_of_up setup w c.call.callee all up

  other : i ≢ c.call.callee
  other e = callee_other setup w i c all is (sym e)

  abbrev answer : Answer
  answer = reply c.call.kind (vector w c.call.callee)

  -- the world where the callee has heard the call, and the caller doesn't know yet
  abbrev between : World
  between = with_node_state w c.call.callee (called i c (node_state w c.call.callee))

  -- the callee after a call of this kind
  abbrev after_call : CallKind → NodeState
  after_call kind = stopped_by kind (record (node_state w c.call.callee) { vector = callee_after i kind c.table (vector w c.call.callee) })

  abbrev Hears : CallKind → Type 0
  Hears kind = c.call.kind ≡ kind → Turns (summary_of setup w) (summary_of setup between) c.call.callee (summary_at setup c.call.callee (after_call kind)) → GroupInvariant last (summary_of setup between)

  hear_halt : Hears Halt
  hear_halt e turn =
      shrinks turn kept (halted_shrinks setup i c.call.callee (vector w c.call.callee) (point w c.call.callee) (pending w c.call.callee) (summary_of setup w)
      (rw is (silent setup i (vector w i) (point w i) c answer suits was_sent e)) (rw is (far setup i (vector w i) (point w i) c answer suits was_sent e)))

  hear_new_coordinator : Hears NewCoordinator
  hear_new_coordinator e turn = by_test (names (vector w c.call.callee).halter i && is_election (vector w c.call.callee).status) refl
    where
      by_test : (b : Bool) → names (vector w c.call.callee).halter i && is_election (vector w c.call.callee).status ≡ b → GroupInvariant last (summary_of setup between)
      by_test false t = shrinks (rw t at turn) kept unmoved
      by_test true t =
          joins {c = i} {d = c.call.callee} (all_local setup w all) kept (rw t at turn) other
          (record { sent = grind (arith, is, e, was_sent); halter = grind (arith, t); status = grind (arith, t) })

  hear_ready : Hears Ready
  hear_ready e turn = by_test (names (vector w c.call.callee).coordinator i && is_reorganization (vector w c.call.callee).status) refl
    where
      by_test : (b : Bool) → names (vector w c.call.callee).coordinator i && is_reorganization (vector w c.call.callee).status ≡ b → GroupInvariant last (summary_of setup between)
      by_test false t = shrinks (rw t at turn) kept unmoved
      by_test true t =
          follows {c = i} {d = c.call.callee} (all_local setup w all) kept (rw is (rw t at turn))
          (record { sent = grind (arith, is, e, was_sent); coordinator = grind (arith, t); status = grind (arith, t) })

  hear : (kind : CallKind) → Hears kind
  hear AreYouUp e turn = shrinks turn kept unmoved
  hear AreYouNormal e turn = shrinks turn kept unmoved
  hear Halt e turn = hear_halt e turn
  hear NewCoordinator e turn = hear_new_coordinator e turn
  hear Ready e turn = hear_ready e turn

  callee_turn : Turns (summary_of setup w) (summary_of setup between) c.call.callee (summary_at setup c.call.callee (after_call c.call.kind))
  callee_turn = written setup w c.call.callee (after_call c.call.kind) all there

  kept_between : GroupInvariant last (summary_of setup between)
  kept_between = hear c.call.kind refl callee_turn

  others : (j : ℕ) → j ≢ i → node_state (ran w i c) j ≡ node_state between j
  others j d = by_case (grind arith)
    where
      by_case : (j ≡ c.call.callee) ⊎ (j ≢ c.call.callee) → node_state (ran w i c) j ≡ node_state between j
      by_case (inl e) = rw e (ran_there setup w i c all is up ∙ sym (node_state_here setup w c.call.callee _ all there))
      by_case (inr n) = ran_other setup w i c all is up j d n ∙ sym (node_state_other w c.call.callee j _ n)

  ran_turn : Turns (summary_of setup between) (summary_of setup (ran w i c)) i (after setup i (vector w i) (point w i) c answer suits was_sent)
  ran_turn = turns setup between (ran w i c) i _ (ran_here setup w i c all is up) others

  caller_between : summary_of setup between i ≡ summary setup.nodes i (vector w i) (point w i) (Some c)
  caller_between = ap (summary_at setup i) (node_state_other w c.call.callee i _ other) ∙ ap (summary setup.nodes i (vector w i) (point w i)) is

  by_halt : (c.call.kind ≢ Halt) ⊎ ((c.is_live ≡ false) ⊎ ((c.call.kind ≡ Halt) × (c.is_live ≡ true))) → GroupInvariant last (summary_of setup (ran w i c))
  by_halt (inl n) = shrinks ran_turn kept_between (rw caller_between (quiet setup i (vector w i) (point w i) c answer suits was_sent (summary_of setup between) (inl n)))
  by_halt (inr (inl orphan)) = shrinks ran_turn kept_between (rw caller_between (quiet setup i (vector w i) (point w i) c answer suits was_sent (summary_of setup between) (inr orphan)))
  by_halt (inr (inr (e, live))) =
      let halt = halting setup i (vector w i) (point w i) c answer suits was_sent e live in
      let turn = rw e at callee_turn in
      let turn_between = subst (λ t. Turns (summary_of setup between) (summary_of setup (ran w i c)) i (record t { passed = c.call.callee })) (sym caller_between) (rw halt.1 at ran_turn) in
      passes {c = i} {d = c.call.callee} kept_between turn_between (grind (arith, suits.callee, e)) (ap (λ t. t.passed) caller_between ∙ halt.0)
      (grind (arith, turn.same c.call.callee)) (grind (arith, turn.same c.call.callee)) (λ m a. grind (arith, turn.same c.call.callee, a.halter))

  pub run_keeps : GroupInvariant last (summary_of setup (ran w i c))
  run_keeps = by_halt (grind arith)
