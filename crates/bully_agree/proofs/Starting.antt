-- A call is started: a NewCoordinator and a Ready can take effect from now on, the others change nothing yet.
use Rattle.std.proofs.Common.{◌≡◌, ◌≢◌, ℕ, ◌<◌, Some, None, arith, refl}
use Rattle.bully_base.specs.Setup.{Setup}
use Rattle.bully_calls.specs.declared.call.Call.{Call}
use Rattle.bully_calls.specs.declared.call.CallKind.{CallKind}
use Rattle.bully_calls.specs.declared.call.CallKind.TheVariants.{AreYouUp, AreYouNormal, Halt, NewCoordinator, Ready}
use Rattle.bully_handlers.specs.Vector.{Vector}
use Rattle.bully_steps.specs.declared.point.Point.{Point}
use Rattle.bully_steps.specs.declared.point.Want.{Want}
use Rattle.bully_steps.specs.Point.{offered, IsPointOf}
use Rattle.bully_world.proofs.NodeInvariantLemmas.{node_of_up}
use Rattle.bully_world.specs.NodeInvariant.{WorldInvariant}
use Rattle.bully_world.specs.Step.{IsUp, offer, sent}
use Rattle.bully_world.specs.World.{World, vector, point, pending, node_state, with_node_state}
use Rattle.bully_agree.proofs.Changes.Announces.{announces}
use Rattle.bully_agree.proofs.Changes.Readies.{readies}
use Rattle.bully_agree.proofs.Changes.Shrinks.{Shrinks, calls_on, shrinks}
use Rattle.bully_agree.proofs.Fitting.{summary, summary_of, written, all_local}
use Rattle.bully_agree.proofs.NodeSummary.{Calls, Hands, NodeSummary, Origin, GroupInvariant, Turns}

module _ (setup : Setup) (i : ℕ) (v : Vector) (p : Point) (call : Call) (offers : offered setup v.coordinator p ≡ Want.Start call) where
  abbrev before : NodeSummary
  before = summary setup.nodes i v p None

  abbrev after : NodeSummary
  after = summary setup.nodes i v p (Some (sent call v))

  quiet : (f : ℕ → NodeSummary) → call.kind ≢ NewCoordinator → call.kind ≢ Ready → Shrinks f i before after
  quiet f x y = calls_on refl (grind (arith, offers)) (grind (arith, offers)) (λ k e. grind (arith, x)) (λ k e. grind (arith, y))

  calling : call.kind ≡ NewCoordinator → before.activity ≡ Calls
  calling e = grind (arith, offers, e)

  below : IsPointOf setup i p → call.kind ≡ NewCoordinator → call.callee < i
  below is_point e = grind (arith, is_point, offers, e)

  announcing : call.kind ≡ NewCoordinator → after ≡ record before { announces = Some call.callee }
  announcing e = grind (arith, offers, e)

  handing : call.kind ≡ Ready → before.activity ≡ Hands
  handing e = grind (arith, offers, e)

  readying : call.kind ≡ Ready → after ≡ record before { readies = Some call.callee; carries = v.task }
  readying e = grind (arith, offers, e)

pub start_keeps : {last : Origin} (setup : Setup) (w : World) (i : ℕ) (call : Call) → WorldInvariant setup w → GroupInvariant last (summary_of setup w) → IsUp w i → pending w i ≡ None
    → offer setup w i ≡ Want.Start call
    → GroupInvariant last (summary_of setup (with_node_state w i (record (node_state w i) { pending = Some (sent call (vector w i)) })))
start_keeps {last} setup w i call all kept up free offers = by_kind call.kind refl
  where
    v : Vector
    v = vector w i

    p : Point
    p = point w i

    now : World
    now = with_node_state w i (record (node_state w i) { pending = Some (sent call (vector w i)) })

    turn : Turns (summary_of setup w) (summary_of setup now) i (after setup i v p call offers)
    turn = written setup w i _ all (node_of_up setup w i all up)

    quietly : call.kind ≢ NewCoordinator → call.kind ≢ Ready → GroupInvariant last (summary_of setup now)
    quietly x y = shrinks turn kept (rw free (quiet setup i v p call offers (summary_of setup w) x y))

    by_kind : (k : CallKind) → call.kind ≡ k → GroupInvariant last (summary_of setup now)
    by_kind AreYouUp e = quietly (grind arith) (grind arith)
    by_kind AreYouNormal e = quietly (grind arith) (grind arith)
    by_kind Halt e = quietly (grind arith) (grind arith)
    by_kind NewCoordinator e =
        announces {c = i} {d = call.callee} (all_local setup w all) kept (rw free (rw (announcing setup i v p call offers e) at turn))
        (below setup i v p call offers (all.fits i).is_point e) (calling setup i v p call offers e) (rw free refl)
    by_kind Ready e = readies {c = i} {d = call.callee} kept (rw free (rw (readying setup i v p call offers e) at turn)) (handing setup i v p call offers e)
