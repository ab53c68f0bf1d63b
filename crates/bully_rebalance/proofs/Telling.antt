-- A node tells each that it has left, with nothing between its calls.
use Rattle.std.proofs.Common.{◌≡◌, ◌≢◌, ◌<◌, ◌≤◌, ◌++◌, inl, inr, ℕ, true, List, [], ◌∷◌, Option, Some, None, length, arith, refl, sym, subst, ◌∙◌}
use Rattle.std.proofs.lemmas.Bool.Decides.{nat_tests}
use Rattle.bully_base.proofs.NodeSetLemmas.{Has}
use Rattle.bully_base.specs.NodeSet.{IsFallingBelow}
use Rattle.bully_base.specs.Setup.{Setup}
use Rattle.bully_base.specs.declared.node.Status.TheVariants.{Down, Election, Reorganization, Normal}
use Rattle.bully_calls.specs.declared.call.Call.{Call}
use Rattle.bully_calls.specs.declared.call.CallKind.TheVariants.{NewCoordinator, Ready}
use Rattle.bully_calls.specs.declared.event.Event.{Event}
use Rattle.bully_handlers.specs.Handler.{callee_after}
use Rattle.bully_handlers.specs.Vector.{Vector}
use Rattle.bully_rebalance.proofs.Electing.{reaches_none, stands}
use Rattle.bully_rebalance.proofs.Reaching.{Called, Reaches, call_runs, reaches_then}
use Rattle.bully_rebalance.specs.Rebalancing.{repeated, whole_call}
use Rattle.bully_steps.specs.declared.point.Point.{Point}
use Rattle.bully_world.specs.NodeInvariant.{WorldInvariant}
use Rattle.bully_world.specs.Step.{called, sent}
use Rattle.bully_world.specs.World.{NodeState, World, node_state, vector}

-- these events lead to a world where node i is m, what is said holds of these nodes' vectors, and all others are as before
pub record Tells (setup : Setup) (w : World) (events : List Event) (i : ℕ) (m : NodeState) (ks : List ℕ) (After : Vector → Type 0) : Type 0 where
  pub world : World
  pub way : Reaches setup w events world
  pub fits : WorldInvariant setup world
  pub here : node_state world i ≡ m
  pub told : (j : ℕ) → Has ks j → After (vector world j)
  pub others : (j : ℕ) → j ≢ i → (Has ks j → ⊥) → node_state world j ≡ node_state w j

-- those of a falling list are below its bound
pub has_below : (ks : List ℕ) (bound j : ℕ) → IsFallingBelow bound ks → Has ks j → j < bound
has_below [] bound j falls h = absurd h
has_below (k ∷ ks) bound j falls (inl e) = omega (arith, e, falls.1)
has_below (k ∷ ks) bound j falls (inr h) = let l = has_below ks k j falls.2 h in omega (arith, l, falls.1)

pub has_fewer : (ks : List ℕ) (bound : ℕ) → 0 < bound → IsFallingBelow bound ks → length ks < bound
has_fewer [] bound p falls = omega (arith, p)
has_fewer (k ∷ ks) bound p falls = let l = has_fewer ks k falls.0 falls.2 in omega (arith, l, falls.1)

abbrev pub HasJoined : ℕ → Vector → Type 0
HasJoined i v = (v.status ≡ Reorganization) × (v.coordinator ≡ Some i)

abbrev pub IsCalled : ℕ → Vector → Type 0
IsCalled i v = (v.status ≡ Election) × (v.halter ≡ Some i)

abbrev pub IsLed : ℕ → Vector → Type 0
IsLed i v = (v.status ≡ Normal) × (v.coordinator ≡ Some i)

-- one call of a node that stands so, at the first of those left
abbrev TellsOne : Setup → ℕ → Vector → (List ℕ → Point) → (Vector → Type 0) → (Vector → Type 0) → Type 0
TellsOne setup i v at Before After = (w : World) (k : ℕ) (ks : List ℕ) → WorldInvariant setup w → node_state w i ≡ stands v (at (k ∷ ks)) → k ≢ i → Before (vector w k)
    → (m : NodeState) × After m.vector × Called setup w (whole_call i true) i k (stands v (at ks)) m

tells_all : (setup : Setup) (i : ℕ) (v : Vector) (at : List ℕ → Point) (Before After : Vector → Type 0) → TellsOne setup i v at Before After → (ks : List ℕ) (bound : ℕ) → IsFallingBelow bound ks → bound ≤ i
    → (w : World) → WorldInvariant setup w → node_state w i ≡ stands v (at ks) → ((j : ℕ) → Has ks j → Before (vector w j)) → Tells setup w (repeated (length ks) (whole_call i true)) i (stands v (at [])) ks After
tells_all setup i v at Before After one [] bound falls below w all is before = record {
  world = w;
  way = reaches_none setup w;
  fits = all;
  here = is;
  told = λ j h. absurd h;
  others = λ j d n. refl;
}
tells_all setup i v at Before After one (k ∷ ks) bound falls below w all is before =
    by_call (one w k ks all is (λ e. absurd (omega (arith, e, falls.1, below))) (before k (inl refl))) (λ w'. tells_all setup i v at Before After one ks k falls.2 (omega (arith, falls.1, below)) w')
  where
    lower : (j : ℕ) → Has ks j → j < k
    lower j h = has_below ks k j falls.2 h

    under : (j : ℕ) → j < k → j ≢ i
    under j l e = absurd (omega (arith, l, e, falls.1, below))

    by_call : (m : NodeState) × After m.vector × Called setup w (whole_call i true) i k (stands v (at ks)) m
        → ((w' : World) → WorldInvariant setup w' → node_state w' i ≡ stands v (at ks) → ((j : ℕ) → Has ks j → Before (vector w' j)) → Tells setup w' (repeated (length ks) (whole_call i true)) i (stands v (at [])) ks After)
        → Tells setup w (whole_call i true ++ repeated (length ks) (whole_call i true)) i (stands v (at [])) (k ∷ ks) After
    by_call (m, after, c) rest = record {
      world = more.world;
      way = reaches_then setup w c.world more.world (whole_call i true) (repeated (length ks) (whole_call i true)) c.way more.way;
      fits = more.fits;
      here = more.here;
      told = λ j h. told_of j h;
      others = λ j d n. more.others j d (λ h. n (inr h)) ∙ c.others j d (λ e. n (inl e));
    }
      where
        still : (j : ℕ) → Has ks j → Before (vector c.world j)
        still j h = subst (λ (x : NodeState). Before x.vector) (sym (c.others j (under j (lower j h)) (λ e. absurd (let l = lower j h in omega (arith, l, e))))) (before j (inr h))

        more : Tells setup c.world (repeated (length ks) (whole_call i true)) i (stands v (at [])) ks After
        more = rest c.world c.fits c.here still

        first : node_state more.world k ≡ m
        first = more.others k (λ e. absurd (omega (arith, e, falls.1, below))) (λ h. absurd (let l = lower k h in omega (arith, l))) ∙ c.there

        told_of : (j : ℕ) → Has (k ∷ ks) j → After (vector more.world j)
        told_of j (inl e) = subst (λ x. After (vector more.world x)) (sym e) (subst (λ (x : NodeState). After x.vector) (sym first) after)
        told_of j (inr h) = more.told j h

-- a node that it halted joins it
joined : (i : ℕ) (v : Vector) → IsCalled i v → HasJoined i (callee_after i NewCoordinator None v)
joined i v is = (grind (arith, nat_tests, is.0, is.1), grind (arith, nat_tests, is.0, is.1))

readied : (i : ℕ) (task : Option (List ℕ)) (v : Vector) → HasJoined i v → IsLed i (callee_after i Ready task v)
readied i task v is = (grind (arith, nat_tests, is.0, is.1), grind (arith, nat_tests, is.0, is.1))

up_of_called : (i : ℕ) (v : Vector) → IsCalled i v → v.status ≢ Down
up_of_called i v is e = let election = is.0 in absurd (cc)

up_of_joined : (i : ℕ) (v : Vector) → HasJoined i v → v.status ≢ Down
up_of_joined i v is e = let reorganization = is.0 in absurd (cc)

pub announces : (setup : Setup) (i : ℕ) (v : Vector) → v.status ≢ Down → (ks : List ℕ) → IsFallingBelow i ks → (w : World) → WorldInvariant setup w → node_state w i ≡ stands v (Point.Announcing ks)
    → ((j : ℕ) → Has ks j → IsCalled i (vector w j)) → Tells setup w (repeated (length ks) (whole_call i true)) i (stands v (Point.Announcing [])) ks (HasJoined i)
announces setup i v up ks falls w all is before = tells_all setup i v Point.Announcing (IsCalled i) (HasJoined i) one ks i falls (omega arith) w all is before
  where
    one : TellsOne setup i v Point.Announcing (IsCalled i) (HasJoined i)
    one w k ks all is other was =
        let call : Call = record { callee = k; kind = NewCoordinator } in (
          called i (sent call v) (node_state w k),
          joined i (vector w k) was,
          call_runs setup w i (stands v (Point.Announcing (k ∷ ks))) all is up refl call refl other (up_of_called i (vector w k) was) (λ _. refl) (Point.Announcing ks) refl,
        )

pub readies : (setup : Setup) (i : ℕ) (v : Vector) → v.status ≢ Down → (ks : List ℕ) → IsFallingBelow i ks → (w : World) → WorldInvariant setup w → node_state w i ≡ stands v (Point.Readying ks)
    → ((j : ℕ) → Has ks j → HasJoined i (vector w j)) → Tells setup w (repeated (length ks) (whole_call i true)) i (stands v (Point.Readying [])) ks (IsLed i)
readies setup i v up ks falls w all is before = tells_all setup i v Point.Readying (HasJoined i) (IsLed i) one ks i falls (omega arith) w all is before
  where
    one : TellsOne setup i v Point.Readying (HasJoined i) (IsLed i)
    one w k ks all is other was =
        let call : Call = record { callee = k; kind = Ready } in (
          called i (sent call v) (node_state w k),
          readied i v.task (vector w k) was,
          call_runs setup w i (stands v (Point.Readying (k ∷ ks))) all is up refl call refl other (up_of_joined i (vector w k) was) (λ _. refl) (Point.Readying ks) refl,
        )
