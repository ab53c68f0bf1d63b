-- The node's place has its snapshot.
use Rattle.std.proofs.Common.{◌++◌, rules}
use Rattle.bully_film.specs.Behind.{world_behind}
use Rattle.bully_film.specs.Scene.{snapshot}
use Rattle.bully_film.proofs.LaneLemmas.{at_end-there}
use Rattle.bully_film.proofs.lane.snapshot_at_end.Goals as goal

pub returns : goal.returns
returns c = λ window trace is.
    let there = at_end-there window trace c.args.finished.now is c.args.node c.number.ensures.within c.requires in
    c.snapshot_at.ensures (snapshot (world_behind trace.setup (is.before ++ is.shown)) c.args.node) (search (rules, there))
