use Rattle.bully_work.proofs.SnapshotLemmas.{snapshot_lem}
use Rattle.bully_work.proofs.snapshots_suffice.Goals as goal

pub returns : goal.returns
returns c = snapshot_lem
