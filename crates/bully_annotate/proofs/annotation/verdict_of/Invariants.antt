use Rattle.std.proofs.Common.{◌≡◌, ◌+◌, take}
use Rattle.bully_trace.specs.Judging.{HasJudged}
use Rattle.bully_annotate.proofs.annotation.verdict_of.Given as goal

abbrev pub invariant-loop-row : goal.invariant-loop-row
invariant-loop-row l = record {
  judged : HasJudged l.trace.setup (take l.row-index l.trace.rows) l.judge;
  number : l.number ≡ l.row-index + 2;
}
