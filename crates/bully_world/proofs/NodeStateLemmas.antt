-- What is read of a world where one node was written anew.
use Rattle.std.proofs.Common.{◌≡◌, ◌≢◌, ℕ, List, length, Option, Some, None, ◌⊎◌, arith, refl, subst, sym, ◌∙◌, inl, inr, IfSome}
use Rattle.bully_base.specs.declared.node.Status.TheVariants.{Down}
use Rattle.bully_base.specs.Setup.{Setup, IsNode}
use Rattle.bully_base.proofs.PlaceLemmas.{at_node_same, at_node_other, length-put_node}
use Rattle.bully_calls.specs.Pending.{Pending}
use Rattle.bully_world.specs.NodeInvariant.{NodeInvariant, WorldInvariant, SuitsCall}
use Rattle.bully_world.specs.Step.{IsUp}
use Rattle.bully_world.specs.World.{World, NodeState, node_state, vector, point, pending, with_node_state, empty_node_state}

pub node_state_here : (setup : Setup) (w : World) (i : ℕ) (m : NodeState) → WorldInvariant setup w → IsNode setup i → node_state (with_node_state w i m) i ≡ m
node_state_here setup w i m all node = at_node_same empty_node_state w.states i m node.0 (omega (arith, all.count, node.1))

pub node_state_other : (w : World) (i j : ℕ) (m : NodeState) → j ≢ i → node_state (with_node_state w i m) j ≡ node_state w j
node_state_other w i j m d = at_node_other empty_node_state w.states i j m d

-- what node j is, whichever it is
pub member_cases : (setup : Setup) (w : World) (i j : ℕ) (m : NodeState) → WorldInvariant setup w → IsNode setup i
    → ((j ≡ i) × (node_state (with_node_state w i m) j ≡ m)) ⊎ ((j ≢ i) × (node_state (with_node_state w i m) j ≡ node_state w j))
member_cases setup w i j m all node = by_case (grind arith)
  where
    by_case : (j ≡ i) ⊎ (j ≢ i) → ((j ≡ i) × (node_state (with_node_state w i m) j ≡ m)) ⊎ ((j ≢ i) × (node_state (with_node_state w i m) j ≡ node_state w j))
    by_case (inl e) = inl (e, rw e (node_state_here setup w i m all node))
    by_case (inr d) = inr (d, node_state_other w i j m d)

-- a node that isn't Down is one of the setup's
pub node_of_fits : (setup : Setup) (i : ℕ) (m : NodeState) → NodeInvariant setup i m → m.vector.status ≢ Down → IsNode setup i
node_of_fits setup i m fits up = by_case fits.a_node
  where
    by_case : (m.vector.status ≡ Down) ⊎ IsNode setup i → IsNode setup i
    by_case (inl e) = absurd (up e)
    by_case (inr node) = node

-- a node's task has the setup's partitions
pub task_of_fits : (setup : Setup) (i : ℕ) (m : NodeState) → NodeInvariant setup i m → IfSome m.vector.task (λ t. length t ≡ setup.partitions)
task_of_fits setup i m fits = sized m.vector.task fits.by_setup.task
  where
    sized : (task : Option (List ℕ)) → ((table : List ℕ) → task ≡ Some table → length table ≡ setup.partitions) → IfSome task (λ t. length t ≡ setup.partitions)
    sized None each = tt
    sized (Some table) each = each table refl

-- a node with a call isn't Down
pub up_of_fits : (setup : Setup) (i : ℕ) (m : NodeState) (c : Pending) → NodeInvariant setup i m → m.pending ≡ Some c → m.vector.status ≢ Down
up_of_fits setup i m c fits is e = grind (arith, is, fits.down_free e)

pub node_of_up : (setup : Setup) (w : World) (i : ℕ) → WorldInvariant setup w → IsUp w i → IsNode setup i
node_of_up setup w i all up = node_of_fits setup i (node_state w i) (all.fits i) up

pub node_of_pending : (setup : Setup) (w : World) (i : ℕ) (c : Pending) → WorldInvariant setup w → pending w i ≡ Some c → IsNode setup i × IsUp w i
node_of_pending setup w i c all is =
    let up : IsUp w i = up_of_fits setup i (node_state w i) c (all.fits i) is in
    (node_of_up setup w i all up, up)

-- what a node's call goes with
pub call_of_fits : (setup : Setup) (i : ℕ) (m : NodeState) (c : Pending) → NodeInvariant setup i m → m.pending ≡ Some c → SuitsCall setup i m.vector m.point c
call_of_fits setup i m c fits is = rw is at fits.by_call

pub call_of_pending : (setup : Setup) (w : World) (i : ℕ) (c : Pending) → WorldInvariant setup w → pending w i ≡ Some c → SuitsCall setup i (vector w i) (point w i) c
call_of_pending setup w i c all is = call_of_fits setup i (node_state w i) c (all.fits i) is

-- all fit still where node i is a node state that fits
pub written_fits : (setup : Setup) (w : World) (i : ℕ) (m : NodeState) → WorldInvariant setup w → IsNode setup i → NodeInvariant setup i m → WorldInvariant setup (with_node_state w i m)
written_fits setup w i m all node fits = record {
  count = length-put_node w.states i m ∙ all.count;
  fits = λ j. fits_each j (member_cases setup w i j m all node);
}
  where
    fits_each : (j : ℕ) → ((j ≡ i) × (node_state (with_node_state w i m) j ≡ m)) ⊎ ((j ≢ i) × (node_state (with_node_state w i m) j ≡ node_state w j)) → NodeInvariant setup j (node_state (with_node_state w i m) j)
    fits_each j (inl h) = subst (NodeInvariant setup j) (sym h.1) (rw h.0 fits)
    fits_each j (inr h) = subst (NodeInvariant setup j) (sym h.1) (all.fits j)
