-- The planning node is a member, so that a plan is refused for want of memory alone. All members are nodes of the setup.
use Rattle.std.proofs.Common.{◌≡◌, ◌≢◌, ◌≤◌, ◌∙◌, ℕ, List, [], ◌∷◌, All, arith, refl, sym, subst, ◌↔◌}
use Rattle.bully_base.specs.NodeSet.{with_node}
use Rattle.bully_table.specs.declared.planning.PlanFault.{PlanFault}
use Rattle.bully_steps.proofs.PlanLemmas.{node_and_up}
use Rattle.bully_steps.proofs.planning.planned_table.Goals as goal

-- a plan over a node and others is refused for want of memory alone
plan_fault : (fault : PlanFault) (k : ℕ) (ms members : List ℕ) → members ≡ with_node k ms → (fault ≡ PlanFault.NoMember) ↔ (members ≡ []) → fault ≡ PlanFault.OutOfMemory
plan_fault PlanFault.NoMember k ms members e h = absurd (nobody ms (sym e ∙ h.0 refl))
  where
    nobody : (ms : List ℕ) → with_node k ms ≢ []
    nobody [] e = grind (arith, e)
    nobody (m ∷ ms) e = grind (arith, e)
plan_fault PlanFault.OutOfMemory k ms members e h = refl

pub plan_in-requires-clause-nodes : goal.plan_in-requires-clause-nodes
plan_in-requires-clause-nodes c =
    subst (λ ms. All (λ m. m ≤ c.args.setup.now.nodes) ms) (sym c.insert.ensures.after) (node_and_up c.args.setup.now.nodes c.args.node c.args.up.now c.requires.node c.requires.up)

pub returns-in-Err-clause-fault : goal.returns-in-Err-clause-fault
returns-in-Err-clause-fault c =
    plan_fault c.in-Err.fault c.args.node c.args.up.now c.insert.new.self c.insert.ensures.after c.in-Err.ensures.no_member
