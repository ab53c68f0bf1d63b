-- What is written speaks of what the handle has, which stays.
use Rattle.std.proofs.Common.{refl, subst}
use Rattle.bully_replica.specs.RowReplica.{RowReplicaState}
use Rattle.bully_c.specs.Replicas.{IsWritten}
use Rattle.bully_c.specs.RebalanceRows.{IsRebalanceOf, RefusesRebalance}
use Rattle.bully_replica.specs.RowReplica.{RowReplicaState}
use Rattle.bully_c.proofs.StepLemmas.{at-open-of}
use Rattle.bully_c.proofs.replicas.bully_c_replica_rebalance.Goals as goal

pub returns-clause-open : goal.returns-clause-open
returns-clause-open c =
    let held = c.in-Some.held.value in
    let live = c.args.live.now in
    let old = c.args.old.now in
    let written = subst (λ (f : RowReplicaState). IsWritten (IsRebalanceOf f live old) (RefusesRebalance f live old) c.args.rows.now c.args.length.now c.write_rebalance-status.result c.write_rebalance-status.new.rows c.write_rebalance-status.new.length)
    c.deref.ensures c.write_rebalance-status.ensures in
    at-open-of RowReplicaState _ _ _ held held held c.write_rebalance-status.result c.in-Some.ensures.taken refl c.put.ensures (written, refl)
