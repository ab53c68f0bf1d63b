-- A procedure moves on without a call: its node halts itself, leads from now on, goes on to plan, or is done.
use Rattle.std.proofs.Common.{◌≡◌, ◌≢◌, ℕ, ◌≤◌, true, [], Some, None, ◌⊎◌, arith, inl, inr}
use Rattle.bully_base.specs.declared.node.Status.TheVariants.{Reorganization, Normal}
use Rattle.bully_base.specs.Setup.{Setup}
use Rattle.bully_calls.specs.declared.call.Outcome.{Outcome}
use Rattle.bully_handlers.specs.Vector.{Vector}
use Rattle.bully_steps.specs.declared.point.Point.{Point}
use Rattle.bully_steps.specs.declared.point.Point.TheVariants.{Halting, Readying}
use Rattle.bully_steps.specs.declared.point.Want.{Want}
use Rattle.bully_steps.specs.NextPoint.{next_point, next_vector}
use Rattle.bully_steps.specs.Point.{offered}
use Rattle.bully_world.proofs.NodeInvariantLemmas.{node_of_up}
use Rattle.bully_world.specs.NodeInvariant.{WorldInvariant}
use Rattle.bully_world.specs.Step.{IsUp, Proceeds, offer}
use Rattle.bully_world.specs.World.{World, vector, point, pending, with_node_state}
use Rattle.bully_agree.proofs.Changes.Finishes.{finishes}
use Rattle.bully_agree.proofs.Changes.Leads.{leads_now}
use Rattle.bully_agree.proofs.Changes.Shrinks.{Shrinks, shrinks}
use Rattle.bully_agree.proofs.Fitting.{summary, summary_of, written, all_local}
use Rattle.bully_agree.proofs.NodeSummary.{Rests, Calls, NodeSummary, leads, Origin, GroupInvariant, Turns}

module _ (setup : Setup) (i : ℕ) (v : Vector) (p q : Point) (offers : offered setup v.coordinator p ≡ Want.Move) (next : next_point setup i v.up p Outcome.Moved ≡ Some q) where
  abbrev before : NodeSummary
  before = summary setup.nodes i v p None

  abbrev after : NodeSummary
  after = summary setup.nodes i (next_vector i p Outcome.Moved v) q None

  -- it leads from now on, it is done, or neither
  abbrev Move : Type 0
  Move =
      ((p ≡ Halting 0) × (after ≡ record before { passed = 0; activity = Calls; status = Reorganization; coordinator = Some i }))
      ⊎ (((p ≡ Readying []) × (after ≡ record before { asked = 0; passed = i; activity = Rests; status = Normal }))
      ⊎ ((p ≢ Halting 0) × (p ≢ Readying [])))

  moved : Move
  moved = grind (arith, offers, next)

  -- a node that halts itself has no call pending and passed nobody
  quiet : (f : ℕ → NodeSummary) → (f i).announces ≡ None → (i ≤ (f i).passed) ⊎ (leads before.activity ≡ true)
      → p ≢ Halting 0 → p ≢ Readying [] → Shrinks f i before after
  quiet f none far x y = record {
    asked = λ k l a. grind (arith, offers, next, x, y);
    passed = λ k l a. grind (arith, offers, next, x, y);
    halts = λ h. grind (arith, offers, next, x, y);
    halted = λ m h e. grind (arith, offers, next, x, y, none, far);
    takes_part_on = λ h. grind (arith, offers, next, x, y);
    leads_on = λ h. grind (arith, offers, next, x, y);
    announces_on = λ k e. grind arith;
    readies_on = λ k e. grind arith;
  }

pub move_keeps : {last : Origin} (setup : Setup) (w w' : World) (i : ℕ) → WorldInvariant setup w → GroupInvariant last (summary_of setup w) → IsUp w i → pending w i ≡ None
    → offer setup w i ≡ Want.Move → Proceeds setup w i Outcome.Moved w'
    → GroupInvariant last (summary_of setup w')
move_keeps {last} setup w w' i all kept up free offers (q, next, becomes) = rw becomes (by_case (moved setup i v p q offers next))
  where
    v : Vector
    v = vector w i

    p : Point
    p = point w i

    now : World
    now = with_node_state w i (record { vector = next_vector i p Outcome.Moved v; point = q; pending = None })

    turn : Turns (summary_of setup w) (summary_of setup now) i (after setup i v p q offers next)
    turn = written setup w i _ all (node_of_up setup w i all up)

    -- the number 0 is no node's
    nobody : (summary_of setup w 0).asked ≡ 0
    nobody = grind (arith, (all.fits 0).a_node, (all.fits 0).down_idle)

    by_case : Move setup i v p q offers next → GroupInvariant last (summary_of setup now)
    by_case (inl halted) =
        leads_now {c = i} (all_local setup w all) kept (rw free (rw halted.1 at turn))
        (grind (arith, halted.0)) (grind (arith, halted.0)) (grind (arith, halted.0, free)) (grind (arith, free)) (grind (arith, free)) nobody
    by_case (inr (inl handed)) = finishes {c = i} (all_local setup w all) kept (rw free (rw handed.1 at turn)) (grind (arith, handed.0)) (grind (arith, free))
    by_case (inr (inr other)) =
        shrinks turn kept (rw free (quiet setup i v p q offers next (summary_of setup w) (grind (arith, free)) (grind (arith, offers, other.0, other.1)) other.0 other.1))
