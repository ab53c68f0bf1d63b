use Rattle.std.proofs.Common.{rules, ◌<◌, ◌≤◌, All, List, subst, sym}
use Rattle.bully_member.specs.declared.values.Lease.{Lease}
use Rattle.bully_c.proofs.LeaseLemmas.{nodes-within}
use Rattle.bully_c.proofs.leases.leases_of.Goals as goal

pub returns-in-Some-clause-nodes : goal.returns-in-Some-clause-nodes
returns-in-Some-clause-nodes c =
    subst (λ (found : List Lease). All (λ (p : Lease). (0 < p.node) × (p.node ≤ c.args.last)) found) (search (rules)) (nodes-within c.args.last c.args.told.now c.args.kept.now (search (rules)))
