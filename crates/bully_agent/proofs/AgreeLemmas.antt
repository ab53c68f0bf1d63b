-- What the nodes of a world agree on, those agree on that are parts of it.
use Rattle.std.proofs.Common.{ℕ, subst}
use Rattle.bully_world.specs.World.{World, node_state, vector}
use Rattle.bully_agree.specs.Agreement.{Agreement}
use Rattle.bully_agree.proofs.Law.{agreement_lem}
use Rattle.bully_agent.specs.Laws.{Agree, PartsAgree}
use Rattle.bully_agent.proofs.PartLemmas.{like_vector}

world_agrees : (w : World) (i j : ℕ) → Agreement w → Agree (vector w i) (vector w j)
world_agrees w i j all = record {
  has_coordinator = all.has_coordinator i;
  same_coordinator = all.same_coordinator i j;
  has_task = all.has_task i;
  same_task = all.same_task i j;
}

pub parts_agree : PartsAgree
parts_agree setup events answers w lawful i j m n p q =
    subst (λ v. Agree v n.vector.vector) (like_vector m (node_state w i) p.like)
    (subst (Agree (vector w i)) (like_vector n (node_state w j) q.like) (world_agrees w i j (agreement_lem setup events answers w lawful)))
