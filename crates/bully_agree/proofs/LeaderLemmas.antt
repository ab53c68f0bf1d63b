-- Who leads: what one Normal node has, all have.
use Rattle.std.proofs.Common.{◌≡◌, ◌≢◌, ◌≤◌, ◌<◌, ◌+◌, ℕ, List, Option, Some, None, length, arith, inr, ⊎_elim, sym, ap, ◌∙◌, subst}
use Rattle.std.proofs.Math.Nat.{eq-or-lt_of_le}
use Rattle.std.proofs.lemmas.Bool.{cases_lt}
use Rattle.std.proofs.lemmas.List.{length-map}
use Rattle.bully_base.proofs.PlaceLemmas.{at_node_past}
use Rattle.bully_base.specs.declared.node.Status.TheVariants.{Normal}
use Rattle.bully_world.proofs.WorldIn.{node_state-world_in}
use Rattle.bully_world.specs.State.{WorldState, IsReached, node_state_of, state_at, world_of}
use Rattle.bully_world.specs.World.{World, empty_node_state, vector}
use Rattle.bully_agree.specs.Agreement.{Agreement}
use Rattle.bully_agree.specs.Leader.{IsLeader, NobodyNormal}
use Rattle.bully_agree.specs.NodeViews.{IsNormalTask}
use Rattle.bully_agree.proofs.Law.{agreement_lem}

-- the nodes of a world that is reached agree
pub reached_agrees : (w : WorldState) → IsReached w → Agreement (world_of w)
reached_agrees w reached = agreement_lem w.setup reached.applied reached.answers (world_of w) reached.lawful

-- the vector that is kept of a node is its vector in the world
pub vector-here : (w : WorldState) (i : ℕ) → vector (world_of w) i ≡ (state_at w i).vector.vector
vector-here w i = ap (λ m. m.vector) (node_state-world_in w.states i)

-- one node more isn't Normal
pub none-more : (w : World) (k n : ℕ) → k + 1 ≡ n → ((i : ℕ) → i ≤ k → (vector w i).status ≢ Normal) → (vector w n).status ≢ Normal → (i : ℕ) → i ≤ k + 1 → (vector w i).status ≢ Normal
none-more w k n next none here i within =
    ⊎_elim (λ (same : i ≡ k + 1). subst (λ j. (vector w j).status ≢ Normal) (sym (same ∙ next)) here) (λ (lower : i < k + 1). none i (omega (arith, lower))) (eq-or-lt_of_le within)

-- no number is a Normal node's if no node's is
pub none-all : (w : WorldState) (k : ℕ) → length w.states ≤ k → ((i : ℕ) → i ≤ k → (vector (world_of w) i).status ≢ Normal) → NobodyNormal (world_of w)
none-all w k all none i = ⊎_elim (λ (past : k < i). beyond past) (λ (within : i ≤ k). none i within) (cases_lt k i)
  where
    beyond : k < i → (vector (world_of w) i).status ≢ Normal
    beyond past is =
        let size = length-map w.states node_state_of in
        let nothing = at_node_past empty_node_state (world_of w).states i (omega (arith, size, all, past)) in
        absurd (cc (ap (λ m. m.vector.status) nothing, is))

-- whose coordinator a Normal node has, leads
pub leads : (w : World) (i : ℕ) (c : Option ℕ) → Agreement w → (vector w i).status ≡ Normal → c ≡ (vector w i).coordinator → IsLeader w c
leads w i (Some c) agreed normal is = record {
  followed = (i, normal);
  coordinator = λ j n. agreed.same_coordinator j i (inr n) (inr normal) ∙ sym is;
}
leads w i None agreed normal is = absurd (grind (arith, is, agreed.has_coordinator i (inr normal)))

-- the task that a Normal node has, all have
pub has-task : (w : World) (i : ℕ) (task : Option (List ℕ)) → Agreement w → (vector w i).status ≡ Normal → task ≡ (vector w i).task → IsNormalTask w task
has-task w i task agreed normal is = λ j n. is ∙ agreed.same_task i j normal n
