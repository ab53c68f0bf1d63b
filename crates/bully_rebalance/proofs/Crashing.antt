-- With no live node each node that is up crashes.
use Rattle.std.proofs.Common.{◌≡◌, ◌≢◌, ◌<◌, ◌≤◌, ◌⊎◌, inl, inr, not, ℕ, zero, suc, Bool, true, false, [], arith, refl, ap, subst, ◌∙◌}
use Rattle.bully_base.proofs.NodeSetLemmas.{Has-from}
use Rattle.bully_base.specs.Setup.{Setup}
use Rattle.bully_base.specs.declared.node.Status.TheVariants.{Down}
use Rattle.bully_calls.specs.declared.event.Event.{Event}
use Rattle.bully_handlers.specs.Vector.{is_down}
use Rattle.bully_rebalance.proofs.Electing.{reaches_none, turned_none}
use Rattle.bully_rebalance.proofs.Preparing.{down_tells, up_tells}
use Rattle.bully_rebalance.proofs.Reaching.{Reaches, Turned, crash_turned, reaches_then}
use Rattle.bully_rebalance.specs.Stable.{AllStable}
use Rattle.bully_rebalance.specs.Rebalancing.{crashing, event_if}
use Rattle.bully_world.specs.Cause.{is_down_at}
use Rattle.bully_world.specs.NodeInvariant.{WorldInvariant}
use Rattle.bully_world.specs.World.{NodeState, World, node_state, vector}

-- the first nodes are Down, and no other was touched
pub record HaveCrashed (setup : Setup) (w : World) (n : ℕ) : Type 0 where
  pub world : World
  pub way : Reaches setup w (crashing w n) world
  pub fits : WorldInvariant setup world
  pub each : (i : ℕ) → 0 < i → i ≤ n → (vector world i).status ≡ Down
  pub later : (i : ℕ) → n < i → node_state world i ≡ node_state w i

crashes_one : (setup : Setup) (w : World) (i : ℕ) → WorldInvariant setup w → (m : NodeState) × (m.vector.status ≡ Down) × Turned setup w (event_if (not (is_down_at w i)) (Event.Crash i)) i m
crashes_one setup w i all = by_test (is_down_at w i) (down_tells (vector w i).status) (up_tells (vector w i).status)
  where
    by_test : (d : Bool) → (d ≡ true → (vector w i).status ≡ Down) → (d ≡ false → (vector w i).status ≢ Down) → (m : NodeState) × (m.vector.status ≡ Down) × Turned setup w (event_if (not d) (Event.Crash i)) i m
    by_test true down up = (node_state w i, down refl, turned_none setup w i all)
    by_test false down up = (_, refl, crash_turned setup w i all (up refl))

pub crashes : (setup : Setup) (w : World) → WorldInvariant setup w → (n : ℕ) → HaveCrashed setup w n
crashes setup w all zero = record { world = w; way = reaches_none setup w; fits = all; each = λ i p l. absurd (omega (arith, p, l)); later = λ i l. refl }
crashes setup w all (suc n) = one_more (crashes setup w all n)
  where
    one_more : HaveCrashed setup w n → HaveCrashed setup w (suc n)
    one_more before = by_one (crashes_one setup before.world (suc n) before.fits)
      where
        same : event_if (not (is_down_at before.world (suc n))) (Event.Crash (suc n)) ≡ event_if (not (is_down_at w (suc n))) (Event.Crash (suc n))
        same = ap (λ (m : NodeState). event_if (not (is_down m.vector.status)) (Event.Crash (suc n))) (before.later (suc n) (omega arith))

        by_one : (m : NodeState) × (m.vector.status ≡ Down) × Turned setup before.world (event_if (not (is_down_at before.world (suc n))) (Event.Crash (suc n))) (suc n) m → HaveCrashed setup w (suc n)
        by_one (m, is, t) = record {
          world = t.world;
          way = reaches_then setup w before.world t.world (crashing w n) (event_if (not (is_down_at w (suc n))) (Event.Crash (suc n))) before.way (subst (λ events. Reaches setup before.world events t.world) same t.way);
          fits = t.fits;
          each = λ i p l. by_case i p (grind arith);
          later = λ i l. t.others i (λ e. absurd (omega (arith, l, e))) ∙ before.later i (omega (arith, l));
        }
          where
            by_case : (i : ℕ) → 0 < i → (i ≡ suc n) ⊎ (i ≤ n) → (vector t.world i).status ≡ Down
            by_case i p (inl e) = ap (λ x. (vector t.world x).status) e ∙ ap (λ (x : NodeState). x.vector.status) t.here ∙ is
            by_case i p (inr l) = ap (λ (x : NodeState). x.vector.status) (t.others i (λ e. absurd (omega (arith, l, e)))) ∙ before.each i p l

-- no node is live, and all are Down
pub all_down : (setup : Setup) (w : World) (c : HaveCrashed setup w setup.nodes) → AllStable c.world setup []
all_down setup w c i node = record { normal = λ has. absurd (Has-from [] i has); led = λ has. absurd (Has-from [] i has); down = λ _. c.each i node.0 node.1 }
