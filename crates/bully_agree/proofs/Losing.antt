-- A call fails, since its callee is Down. Its caller may have asked past or passed one node more by that.
use Rattle.std.proofs.Common.{◌≡◌, ◌≢◌, ℕ, ◌+◌, ◌<◌, ◌≤◌, Some, ◌⊎◌, arith, refl, inl, inr}
use Rattle.bully_base.specs.declared.node.Status.TheVariants.{Down}
use Rattle.bully_base.specs.Setup.{Setup}
use Rattle.bully_calls.specs.declared.call.Phase.{Phase}
use Rattle.bully_calls.specs.Pending.{Pending}
use Rattle.bully_handlers.specs.Vector.{Vector}
use Rattle.bully_steps.specs.declared.point.Point.{Point}
use Rattle.bully_world.proofs.NodeInvariantLemmas.{node_of_pending, call_of_pending}
use Rattle.bully_world.specs.NodeInvariant.{WorldInvariant, SuitsCall}
use Rattle.bully_world.specs.Step.{with_phase}
use Rattle.bully_world.specs.World.{World, vector, point, pending}
use Rattle.bully_agree.proofs.Changes.Asks.{asks}
use Rattle.bully_agree.proofs.Changes.Passes.{passes}
use Rattle.bully_agree.proofs.Changes.Shrinks.{calls_on, shrinks}
use Rattle.bully_agree.proofs.Fitting.{summary, summary_of, written, all_local}
use Rattle.bully_agree.proofs.NodeSummary.{NodeSummary, Origin, GroupInvariant, Turns}

-- the failure comes to nothing, to one node more that was asked past, or to one more that was passed
abbrev Loss : ℕ → ℕ → NodeSummary → NodeSummary → Type 0
Loss i d s t =
    ((t.asked ≤ s.asked) × (s.passed ≤ t.passed))
    ⊎ (((s.asked ≡ d) × (t ≡ record s { asked = d + 1 }))
    ⊎ ((d < i) × (s.passed ≡ d + 1) × (t ≡ record s { passed = d })))

lost : (setup : Setup) (i : ℕ) (v : Vector) (p : Point) (c : Pending) → SuitsCall setup i v p c → c.phase ≢ Phase.Failed
    → Loss i c.call.callee (summary setup.nodes i v p (Some c)) (summary setup.nodes i v p (Some (record c { phase = Phase.Failed })))
lost setup i v p c suits not_failed = grind (arith, suits, not_failed)

pub lose_keeps : {last : Origin} (setup : Setup) (w : World) (i : ℕ) (c : Pending) → WorldInvariant setup w → GroupInvariant last (summary_of setup w) → pending w i ≡ Some c → c.phase ≢ Phase.Failed
    → (vector w c.call.callee).status ≡ Down
    → GroupInvariant last (summary_of setup (with_phase w i c Phase.Failed))
lose_keeps {last} setup w i c all kept is not_failed down = by_case (lost setup i (vector w i) (point w i) c (call_of_pending setup w i c all is) not_failed)
  where
    before : NodeSummary
    before = summary setup.nodes i (vector w i) (point w i) (Some c)

    after : NodeSummary
    after = summary setup.nodes i (vector w i) (point w i) (Some (record c { phase = Phase.Failed }))

    turn : Turns (summary_of setup w) (summary_of setup (with_phase w i c Phase.Failed)) i after
    turn = written setup w i _ all (node_of_pending setup w i c all is).0

    by_case : Loss i c.call.callee before after → GroupInvariant last (summary_of setup (with_phase w i c Phase.Failed))
    by_case (inl less) = shrinks turn kept (rw is (calls_on refl less.0 less.1 (λ k e. grind arith) (λ k e. grind arith)))
    by_case (inr (inl more)) = asks {c = i} {d = c.call.callee} (all_local setup w all) kept (rw is (rw more.1 at turn)) down (rw is more.0)
    by_case (inr (inr more)) =
        passes {c = i} {d = c.call.callee} kept (rw is (rw more.2 at turn)) more.0 (rw is more.1)
        (grind (arith, down)) (grind (arith, (all.fits c.call.callee).down_idle down)) (λ m a. absurd (grind (arith, a.status, down)))
