use Rattle.bully_film.proofs.StretchLemmas.{IsLoop}
use Rattle.bully_film.proofs.stretches.push_stretches.Given as goal

abbrev pub invariant-loop-snapshot : goal.invariant-loop-snapshot
invariant-loop-snapshot g l = IsLoop g.T.Seen.seen l.fn.first l.stretches.items l.from l.row l.seen l.fn.start l.rest l.snapshot-index
