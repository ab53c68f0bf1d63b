-- Where a procedure goes on: to one of its node's points, with an up set of lower nodes.
use Rattle.std.proofs.Common.{◌≡◌, ◌⊎◌, inl, inr, ℕ, zero, suc, Bool, List, [], ◌∷◌, Option, Some, None, arith, refl, unwrap_or, option_map, true, ◌<◌, IfSome, IsSome, if◌then◌else◌}
use Rattle.bully_base.proofs.NodeSetLemmas.{with_node-falling, IsFallingBelow-more}
use Rattle.bully_base.specs.NodeSet.{IsFallingBelow, with_node}
use Rattle.bully_base.specs.Setup.{Setup, IsNode}
use Rattle.bully_calls.specs.declared.call.Outcome.{Outcome}
use Rattle.bully_steps.specs.declared.point.Point.{Point}
use Rattle.bully_steps.specs.declared.point.Point.TheVariants.{Idle, Asking, Halting, Announcing, Planning, Readying, Checking, Inquiring}
use Rattle.bully_steps.specs.declared.point.Want.TheVariants.{Await}
use Rattle.bully_steps.specs.ProcedureState.{ProcedureState, IsProcedureState, IsCall, CanCome, CanResume, SuitsInquiry, up_at, coordinator_at, procedure_state, next_of, next_up, is_started, resumed, resumed_point, resumed_up}
use Rattle.bully_steps.specs.NextPoint.{next_point, election}
use Rattle.bully_steps.specs.Point.{IsPointOf, offered}
use Rattle.bully_steps.specs.PointKind.{kind_of, point_at, left_after}
use Rattle.bully_steps.specs.declared.point_kind.PointKind.{PointKind}

-- what is left of a falling set falls
rest_falls : (b k : ℕ) (rest : List ℕ) → IsFallingBelow b (k ∷ rest) → IsFallingBelow b rest
rest_falls b k rest h = IsFallingBelow-more k b rest (omega (arith, h.1)) h.2

-- the point that follows is one of node i's
pub point_follows : (setup : Setup) (i : ℕ) (up : List ℕ) (p : Point) (o : Outcome) (q : Point) → IsNode setup i → IsFallingBelow i up → IsPointOf setup i p → next_point setup i up p o ≡ Some q → IsPointOf setup i q
point_follows setup i up Idle o q node falls at next = absurd (grind (arith, next))
point_follows setup i up (Asking k) o q node falls at next = grind (arith, next, node, at)
point_follows setup i up (Halting zero) o q node falls at next =
    let h : Announcing up ≡ q = grind (arith, next) in
    rw (← h) falls
point_follows setup i up (Halting (suc k)) o q node falls at next = grind (arith, next, node, at)
point_follows setup i up (Announcing []) o q node falls at next = grind (arith, next)
point_follows setup i up (Announcing (k ∷ rest)) o q node falls at next = by_case (grind (arith, next))
  where
    by_case : (q ≡ Announcing (k ∷ rest)) ⊎ ((q ≡ Announcing rest) ⊎ (q ≡ election i)) → IsPointOf setup i q
    by_case (inl e) = rw e at
    by_case (inr (inl e)) = rw e (rest_falls i k rest at)
    by_case (inr (inr e)) = rw e (omega arith, omega (arith, node.1))
point_follows setup i up Planning o q node falls at next =
    let h : Readying up ≡ q = grind (arith, next) in
    rw (← h) falls
point_follows setup i up (Readying []) o q node falls at next = grind (arith, next)
point_follows setup i up (Readying (k ∷ rest)) o q node falls at next = by_case (grind (arith, next))
  where
    by_case : (q ≡ Readying (k ∷ rest)) ⊎ ((q ≡ Readying rest) ⊎ (q ≡ election i)) → IsPointOf setup i q
    by_case (inl e) = rw e at
    by_case (inr (inl e)) = rw e (rest_falls i k rest at)
    by_case (inr (inr e)) = rw e (omega arith, omega (arith, node.1))
point_follows setup i up (Checking k) o q node falls at next = grind (arith, next, node, at)
point_follows setup i up Inquiring o q node falls at next = grind (arith, next, node)

-- an up set that is held has lower nodes alone, and so has none
held_falls : (i : ℕ) (up : Option (List ℕ)) → IfSome up (IsFallingBelow i) → IsFallingBelow i (unwrap_or up [])
held_falls i None h = tt
held_falls i (Some up) h = h

-- the up set that goes with it has lower nodes alone
up_follows : (setup : Setup) (i : ℕ) (up : List ℕ) (p : Point) (o : Outcome) → IsFallingBelow i up → IsPointOf setup i p → IsFallingBelow i (next_up i p o up)
up_follows setup i up p o falls at = grind (arith, falls, at, with_node-falling)

-- the procedure's next point is one of its node's
pub next_is_point : (h : ProcedureState) (o : Outcome) (q : Point) → IsProcedureState h → next_of h o ≡ Some q → IsPointOf h.setup h.node q
next_is_point h o q is next = point_follows h.setup h.node (unwrap_or h.up []) h.point o q is.node (held_falls h.node h.up is.up) is.point next

-- and its next up set has lower nodes alone
pub resumed_up_falls : (h : ProcedureState) (o : Outcome) → IsProcedureState h → IsFallingBelow h.node (resumed_up h o)
resumed_up_falls h o is = up_follows h.setup h.node (unwrap_or h.up []) h.point o (held_falls h.node h.up is.up) is.point

-- where an outcome can come, a point follows
comes : (setup : Setup) (i : ℕ) (up : List ℕ) (p : Point) (coordinator : Option ℕ) (awaits : Bool) (o : Outcome) → (awaits ≡ true → IsCall (offered setup coordinator p)) → CanCome (if awaits then Await else offered setup coordinator p) p o → IsSome (next_point setup i up p o)
comes setup i up p coordinator awaits o call can = grind (arith, call, can)

pub next_comes : (h : ProcedureState) (o : Outcome) → IsProcedureState h → CanResume h o → IsSome (next_of h o)
next_comes h o is can = comes h.setup h.node (unwrap_or h.up []) h.point h.coordinator h.awaits o is.call can

some_is : (r : Option Point) (p : Point) → IsSome r → r ≡ Some (unwrap_or r p)
some_is None p is = absurd (grind (arith, is))
some_is (Some q) p is = refl

pub next_stands : (h : ProcedureState) (o : Outcome) → IsProcedureState h → CanResume h o → next_of h o ≡ Some (resumed_point h o)
next_stands h o is can = some_is (next_of h o) h.point (next_comes h o is can)

-- a point is held with the up set and the coordinator that are held there
holds_up : (p : Point) (up : List ℕ) → up_at p up ≡ up_at p (unwrap_or (up_at p up) [])
holds_up p up = grind arith

holds_coordinator : (p : Point) (k : Option ℕ) → coordinator_at p k ≡ coordinator_at p (coordinator_at p k)
holds_coordinator p k = grind arith

held_up_falls : (i : ℕ) (p : Point) (up : List ℕ) → IsFallingBelow i up → IfSome (up_at p up) (IsFallingBelow i)
held_up_falls i p up falls = grind (arith, falls)

-- an inquiry goes on with the coordinator that it has, and so does one that is held
inquiry_follows : (setup : Setup) (i : ℕ) (up : List ℕ) (p : Point) (o : Outcome) (q : Point) (k : Option ℕ) → SuitsInquiry setup i k p → next_point setup i up p o ≡ Some q → SuitsInquiry setup i k q
inquiry_follows setup i up p o q k suits next = grind (arith, suits, next)

held_inquiry : (setup : Setup) (i : ℕ) (q : Point) (k : Option ℕ) → SuitsInquiry setup i k q → SuitsInquiry setup i (coordinator_at q k) q
held_inquiry setup i q k suits = grind (arith, suits)

pub inquiry_goes_on : (h : ProcedureState) (o : Outcome) (q : Point) → IsProcedureState h → next_of h o ≡ Some q → SuitsInquiry h.setup h.node h.coordinator q
inquiry_goes_on h o q is next = inquiry_follows h.setup h.node (unwrap_or h.up []) h.point o q h.coordinator is.inquiry next

-- a call that is started is one that the next point offers, and so with the coordinator that is held
call_follows : (setup : Setup) (i : ℕ) (up : List ℕ) (p : Point) (o : Outcome) (q : Point) (k : Option ℕ) (awaits : Bool) → CanCome (if awaits then Await else offered setup k p) p o → next_point setup i up p o ≡ Some q → is_started o ≡ true → IsCall (offered setup k q)
call_follows setup i up p o q k awaits can next started = grind (arith, can, next, started)

held_call : (setup : Setup) (q : Point) (k : Option ℕ) → IsCall (offered setup k q) → IsCall (offered setup (coordinator_at q k) q)
held_call setup q k call = grind (arith, call)

pub call_goes_on : (h : ProcedureState) (o : Outcome) (q : Point) → IsProcedureState h → CanResume h o → next_of h o ≡ Some q → is_started o ≡ true → IsCall (offered h.setup h.coordinator q)
call_goes_on h o q is can next started = call_follows h.setup h.node (unwrap_or h.up []) h.point o q h.coordinator h.awaits can next started

-- the procedure that the outcome makes is one of the node's
pub resumed_is_state : (h : ProcedureState) (o : Outcome) (q : Point) → IsProcedureState h → CanResume h o → next_of h o ≡ Some q → IsProcedureState (resumed h o)
resumed_is_state h o q is can next =
    let at : resumed_point h o ≡ q = grind (arith, next) in
    rw at record {
      setup = is.setup;
      node = is.node;
      point = next_is_point h o q is next;
      has_up = holds_up q (resumed_up h o);
      up = held_up_falls h.node q (resumed_up h o) (resumed_up_falls h o is);
      has_coordinator = holds_coordinator q h.coordinator;
      inquiry = held_inquiry h.setup h.node q h.coordinator (inquiry_goes_on h o q is next);
      call = λ started. held_call h.setup q h.coordinator (call_goes_on h o q is can next started);
      plan = tt;
    }

-- so is one that is the same, where it is known of which kind the next point is
pub goes_on : (h s : ProcedureState) (o : Outcome) (kind : PointKind) → IsProcedureState h → CanResume h o → option_map kind_of (next_of h o) ≡ Some kind → s ≡ resumed h o → IsProcedureState s
goes_on h s o kind is can next same = rw same (follows (next_of h o) refl next)
  where
    follows : (r : Option Point) → next_of h o ≡ r → option_map kind_of r ≡ Some kind → IsProcedureState (resumed h o)
    follows None e k = absurd (grind (arith, k))
    follows (Some q) e k = resumed_is_state h o q is can e

-- what is made of these is the procedure that the outcome makes
pub resumed_is : (h s : ProcedureState) (o : Outcome) (q : Point) (up : List ℕ) (k : Option ℕ) (b : Bool) → s ≡ procedure_state h.setup h.node h.generation q up k b
    → next_of h o ≡ Some q → up ≡ resumed_up h o → k ≡ h.coordinator → b ≡ is_started o → s ≡ resumed h o
resumed_is h s o q up k b is next joined same started =
    let at : resumed_point h o ≡ q = grind (arith, next) in
    rw (is, at, ← joined, ← same, ← started) refl

-- a node that is halted joins the up set
pub joined_is : (i n : ℕ) (up : List ℕ) → 0 < n → with_node n up ≡ next_up i (Halting n) Outcome.Yes up
joined_is i zero up pos = absurd (omega arith)
joined_is i (suc n) up pos = refl

-- where it is known of which kind the next point is, it is the one with the nodes that are left behind this one
pub lands : (h : ProcedureState) (left : List ℕ) (o : Outcome) (kind : PointKind) → h.point ≡ point_at (kind_of h.point) left → option_map kind_of (next_of h o) ≡ Some kind
    → next_of h o ≡ Some (point_at kind (left_after (kind_of h.point) o (resumed_up h o) left))
lands h left o kind at next = lands_at h.setup h.node (unwrap_or h.up []) left h.point o kind at next
  where
    lands_at : (setup : Setup) (i : ℕ) (up rest : List ℕ) (p : Point) (o : Outcome) (kind : PointKind) → p ≡ point_at (kind_of p) rest → option_map kind_of (next_point setup i up p o) ≡ Some kind
        → next_point setup i up p o ≡ Some (point_at kind (left_after (kind_of p) o (next_up i p o up) rest))
    lands_at setup i up rest p o kind at next = grind (arith, at, next)
