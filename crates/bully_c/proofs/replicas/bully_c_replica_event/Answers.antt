-- What is written speaks of what the handle has, which stays.
use Rattle.std.proofs.Common.{refl, subst}
use Rattle.bully_replica.specs.RowReplica.{RowReplicaState}
use Rattle.bully_c.specs.Replicas.{IsEventRow, IsWritten, RefusesEvent}
use Rattle.bully_replica.specs.RowReplica.{RowReplicaState}
use Rattle.bully_c.proofs.StepLemmas.{at-open-of}
use Rattle.bully_c.proofs.replicas.bully_c_replica_event.Goals as goal

pub returns-clause-open : goal.returns-clause-open
returns-clause-open c =
    let held = c.in-Some.held.value in
    let written = subst (λ (f : RowReplicaState). IsWritten (IsEventRow f c.args.node c.args.event) (RefusesEvent f c.args.node c.args.event) c.args.row.now c.args.length.now c.write_event-status.result c.write_event-status.new.row c.write_event-status.new.length)
    c.deref.ensures c.write_event-status.ensures in
    at-open-of RowReplicaState _ _ _ held held held c.write_event-status.result c.in-Some.ensures.taken refl c.put.ensures (written, refl)
