-- When two procedures agree, and what a procedure that agrees with its node goes on to.
use Rattle.std.proofs.Common.{◌≡◌, ℕ, zero, suc, Bool, true, false, List, [], ◌∷◌, Option, Some, None, arith, refl, sym, ap, bytes_eq, unwrap_or, ◌==◌}
use Rattle.std.proofs.lemmas.Bool.Decides.{nat_tests, Decides-eqb}
use Rattle.std.proofs.lemmas.Slice.Eq.{bytes_eq-Decides}
use Rattle.bully_base.specs.Setup.{Setup}
use Rattle.bully_calls.specs.declared.call.Outcome.{Outcome}
use Rattle.bully_handlers.specs.Vector.{Vector}
use Rattle.bully_steps.specs.declared.point.Point.{Point}
use Rattle.bully_steps.specs.declared.point.Point.TheVariants.{Idle, Asking, Halting, Announcing, Planning, Readying, Checking, Inquiring}
use Rattle.bully_steps.specs.ProcedureState.{ProcedureState, procedure_state, up_at, coordinator_at, next_up, is_started, resumed, resumed_point}
use Rattle.bully_steps.specs.NextPoint.{next_point, next_vector}
use Rattle.bully_world.specs.Turn.{agree, same_flag, same_node, same_set, same_point}

pub record Agrees (h s : ProcedureState) : Type 0 where
  pub generation : h.generation ≡ s.generation
  pub point : h.point ≡ s.point
  pub awaits : h.awaits ≡ s.awaits
  pub up : h.up ≡ s.up
  pub coordinator : h.coordinator ≡ s.coordinator

-- What the tests say.

sets_are : (ms ns : List ℕ) → bytes_eq ms ns ≡ true → ms ≡ ns
sets_are ms ns e = (bytes_eq-Decides ms ns).0 e

set_itself : (ms : List ℕ) → bytes_eq ms ms ≡ true
set_itself ms = (bytes_eq-Decides ms ms).1 refl

number_itself : (k : ℕ) → k == k ≡ true
number_itself k = (Decides-eqb k k).1 refl

point_is : (p q : Point) → same_point p q ≡ true → p ≡ q
point_is Idle Idle e = refl
point_is (Asking k) (Asking j) e = ap Asking ((Decides-eqb k j).0 e)
point_is (Halting k) (Halting j) e = ap Halting ((Decides-eqb k j).0 e)
point_is (Announcing rest) (Announcing other) e = ap Announcing (sets_are rest other e)
point_is Planning Planning e = refl
point_is (Readying rest) (Readying other) e = ap Readying (sets_are rest other e)
point_is (Checking k) (Checking j) e = ap Checking ((Decides-eqb k j).0 e)
point_is Inquiring Inquiring e = refl
point_is p q e = grind (arith, e)

point_itself : (p : Point) → same_point p p ≡ true
point_itself Idle = refl
point_itself (Asking k) = number_itself k
point_itself (Halting k) = number_itself k
point_itself (Announcing rest) = set_itself rest
point_itself Planning = refl
point_itself (Readying rest) = set_itself rest
point_itself (Checking k) = number_itself k
point_itself Inquiring = refl

flag_is : (a b : Bool) → same_flag a b ≡ true → a ≡ b
flag_is true b e = sym e
flag_is false true e = e
flag_is false false e = refl

flag_itself : (b : Bool) → same_flag b b ≡ true
flag_itself true = refl
flag_itself false = refl

set_is : (a b : Option (List ℕ)) → same_set a b ≡ true → a ≡ b
set_is None None e = refl
set_is (Some ms) (Some ns) e = ap Some (sets_are ms ns e)
set_is None (Some ns) e = absurd (grind (arith, e))
set_is (Some ms) None e = absurd (grind (arith, e))

state_set_itself : (a : Option (List ℕ)) → same_set a a ≡ true
state_set_itself None = refl
state_set_itself (Some ms) = set_itself ms

pub node_is : (a b : Option ℕ) → same_node a b ≡ true → a ≡ b
node_is None None e = refl
node_is (Some j) (Some k) e = ap Some ((Decides-eqb j k).0 e)
node_is None (Some k) e = absurd (grind (arith, e))
node_is (Some j) None e = absurd (grind (arith, e))

pub node_itself : (a : Option ℕ) → same_node a a ≡ true
node_itself None = refl
node_itself (Some j) = number_itself j

-- procedures that agree have the same, and the other way round
pub agrees_of : (h s : ProcedureState) → agree h s ≡ true → Agrees h s
agrees_of h s e = record {
  generation = grind (arith, nat_tests, e);
  point = point_is h.point s.point (grind (arith, e));
  awaits = flag_is h.awaits s.awaits (grind (arith, e));
  up = set_is h.up s.up (grind (arith, e));
  coordinator = node_is h.coordinator s.coordinator (grind (arith, e));
}

pub agree_if : (h s : ProcedureState) → Agrees h s → agree h s ≡ true
agree_if h s a = grind (arith, a.generation, a.point, a.awaits, a.up, a.coordinator, number_itself s.generation, point_itself s.point, flag_itself s.awaits, state_set_itself s.up, node_itself s.coordinator)

-- What the procedure holds is enough to go on.

state_point : (setup : Setup) (i : ℕ) (p : Point) (u : List ℕ) (o : Outcome) → next_point setup i (unwrap_or (up_at p u) []) p o ≡ next_point setup i u p o
state_point setup i Idle u o = refl
state_point setup i (Asking k) u o = grind arith
state_point setup i (Halting zero) u o = refl
state_point setup i (Halting (suc k)) u o = refl
state_point setup i (Announcing []) u o = refl
state_point setup i (Announcing (k ∷ rest)) u o = refl
state_point setup i Planning u o = refl
state_point setup i (Readying []) u o = grind arith
state_point setup i (Readying (k ∷ rest)) u o = grind arith
state_point setup i (Checking k) u o = grind arith
state_point setup i Inquiring u o = grind arith

state_set : (setup : Setup) (i : ℕ) (p : Point) (v : Vector) (o : Outcome) (q : Point) → next_point setup i v.up p o ≡ Some q
    → up_at q (next_up i p o (unwrap_or (up_at p v.up) [])) ≡ up_at q (next_vector i p o v).up
state_set setup i Idle v o q e = absurd (grind (arith, e))
state_set setup i (Asking k) v o q e = grind (arith, e)
state_set setup i (Halting zero) v o q e = grind (arith, e)
state_set setup i (Halting (suc k)) v o q e = grind (arith, e)
state_set setup i (Announcing []) v o q e = grind (arith, e)
state_set setup i (Announcing (k ∷ rest)) v o q e = grind (arith, e)
state_set setup i Planning v o q e = grind (arith, e)
state_set setup i (Readying []) v o q e = grind (arith, e)
state_set setup i (Readying (k ∷ rest)) v o q e = grind (arith, e)
state_set setup i (Checking k) v o q e = grind (arith, e)
state_set setup i Inquiring v o q e = grind (arith, e)

state_other : (setup : Setup) (i : ℕ) (p : Point) (v : Vector) (o : Outcome) (q : Point) → next_point setup i v.up p o ≡ Some q
    → coordinator_at q (coordinator_at p v.coordinator) ≡ coordinator_at q (next_vector i p o v).coordinator
state_other setup i Idle v o q e = absurd (grind (arith, e))
state_other setup i (Asking k) v o q e = grind (arith, e)
state_other setup i (Halting zero) v o q e = grind (arith, e)
state_other setup i (Halting (suc k)) v o q e = grind (arith, e)
state_other setup i (Announcing []) v o q e = grind (arith, e)
state_other setup i (Announcing (k ∷ rest)) v o q e = grind (arith, e)
state_other setup i Planning v o q e = grind (arith, e)
state_other setup i (Readying []) v o q e = grind (arith, e)
state_other setup i (Readying (k ∷ rest)) v o q e = grind (arith, e)
state_other setup i (Checking k) v o q e = grind (arith, e)
state_other setup i Inquiring v o q e = grind (arith, e)

-- a procedure that agrees with its node is resumed to where the node goes on
pub resumed_agrees : (setup : Setup) (i g : ℕ) (p : Point) (v : Vector) (b : Bool) (o : Outcome) (q : Point) (h : ProcedureState) → h.setup ≡ setup → h.node ≡ i → Agrees h (procedure_state setup i g p v.up v.coordinator b)
    → next_point setup i v.up p o ≡ Some q → Agrees (resumed h o) (procedure_state setup i g q (next_vector i p o v).up (next_vector i p o v).coordinator (is_started o))
resumed_agrees setup i g p v b o q h se ne a e =
    let at : resumed_point h o ≡ q = grind (arith, se, ne, a.point, a.up, state_point setup i p v.up o, e) in
    record {
      generation = a.generation;
      point = at;
      awaits = refl;
      up = grind (arith, at, ne, a.point, a.up, state_set setup i p v o q e);
      coordinator = grind (arith, at, a.coordinator, state_other setup i p v o q e);
    }
