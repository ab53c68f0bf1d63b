use Rattle.std.proofs.Common.{◌≤◌, All, subst, sym}
use Rattle.bully_member.proofs.LiveLemmas.{falls_within}
use Rattle.bully_member.proofs.member.Member.coming_table.Goals as goal
use Rattle.bully_member.specs.Member.{MemberState, replica_of}
use Rattle.bully_replica.specs.Replica.{ReplicaState}

pub coming_table-requires-clause-nodes : goal.coming_table-requires-clause-nodes
coming_table-requires-clause-nodes c =
    let within = falls_within (replica_of c.args.self.now).world.setup.nodes c.args.group.now c.requires in
    let inside = subst (λ (m : MemberState). All (λ k. k ≤ (replica_of m).world.setup.nodes) c.args.group.now) (sym c.self.view_is) within in
    subst (λ (r : ReplicaState). All (λ k. k ≤ r.world.setup.nodes) c.args.group.now) (sym c.replica.ensures) inside
