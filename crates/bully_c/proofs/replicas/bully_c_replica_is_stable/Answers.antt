-- What is written speaks of what the handle has, which stays.
use Rattle.std.proofs.Common.{refl, subst}
use Rattle.bully_replica.specs.RowReplica.{RowReplicaState}
use Rattle.bully_c.specs.RebalanceRows.{IsStableShown}
use Rattle.bully_replica.specs.RowReplica.{RowReplicaState}
use Rattle.bully_c.proofs.StepLemmas.{at-open-of}
use Rattle.bully_c.proofs.replicas.bully_c_replica_is_stable.Goals as goal

pub returns-clause-open : goal.returns-clause-open
returns-clause-open c =
    let held = c.in-Some.held.value in
    let written = subst (λ (f : RowReplicaState). IsStableShown f.replica c.args.live.now c.args.offset c.args.is_stable.now c.write_stable-status.result c.write_stable-status.new.stable)
    c.deref.ensures c.write_stable-status.ensures in
    at-open-of RowReplicaState _ _ _ held held held c.write_stable-status.result c.in-Some.ensures.taken refl c.put.ensures (written, refl)
