use Rattle.std.proofs.Common.{rules}
use Rattle.bully_film.proofs.LaneLemmas.{lane-told}
use Rattle.bully_film.proofs.lane.lane_of.Goals as goal

pub returns : goal.returns
returns c = λ window trace is. lane-told window trace c.args.finished.now is c.args.node c.snapshot_at_end-at_end.result c.lane_in.result (c.snapshot_at_end-at_end.ensures window trace is) (search rules)
