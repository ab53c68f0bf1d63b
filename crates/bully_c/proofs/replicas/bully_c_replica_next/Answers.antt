-- What is written speaks of what the handle has, which stays.
use Rattle.std.proofs.Common.{refl, subst}
use Rattle.bully_replica.specs.RowReplica.{RowReplicaState}
use Rattle.bully_c.specs.Replicas.{IsNextRow, IsWritten, RefusesNext}
use Rattle.bully_replica.specs.RowReplica.{RowReplicaState}
use Rattle.bully_c.proofs.StepLemmas.{at-open-of}
use Rattle.bully_c.proofs.replicas.bully_c_replica_next.Goals as goal

pub returns-clause-open : goal.returns-clause-open
returns-clause-open c =
    let held = c.in-Some.held.value in
    let written = subst (λ (f : RowReplicaState). IsWritten (IsNextRow f c.args.node) (RefusesNext f c.args.node) c.args.row.now c.args.length.now c.write_next-status.result c.write_next-status.new.row c.write_next-status.new.length)
    c.deref.ensures c.write_next-status.ensures in
    at-open-of RowReplicaState _ _ _ held held held c.write_next-status.result c.in-Some.ensures.taken refl c.put.ensures (written, refl)
