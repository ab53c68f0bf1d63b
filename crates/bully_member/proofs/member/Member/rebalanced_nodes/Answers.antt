use Rattle.std.proofs.Common.{◌≤◌, All, subst, sym}
use Rattle.bully_member.proofs.LiveLemmas.{falls_within, live_falls}
use Rattle.bully_member.proofs.member.Member.rebalanced_nodes.Goals as goal
use Rattle.bully_member.specs.Member.{AreNodes, MemberState, replica_of}

pub returns-in-None-clause-nodes : goal.returns-in-None-clause-nodes
returns-in-None-clause-nodes c =
    let within = falls_within _ _ c.self.invariant.0.falls in
    subst (λ (m : MemberState). All (λ k. k ≤ (replica_of m).world.setup.nodes) c.self.inside.group) c.self.view_is within

pub returns-in-None-2-clause-nodes : goal.returns-in-None-2-clause-nodes
returns-in-None-2-clause-nodes c =
    let m = c.args.self.now in
    let nodes = subst (λ (m : MemberState). AreNodes m.learned m.leases) c.self.view_is c.self.invariant.0.nodes in
    subst (All (λ k. k ≤ (replica_of m).world.setup.nodes)) (sym c.live.ensures) (falls_within (replica_of m).world.setup.nodes _ (live_falls (replica_of m).world.setup m.leases nodes))
