use Rattle.std.proofs.Common.{refl, arith, rules}
use Rattle.std.proofs.lemmas.Option.{slice_get_read}
use Rattle.bully_world.specs.State.{world_of}
use Rattle.bully_annotate.proofs.SaysLemmas.{judged-taken, judged-whole}
use Rattle.bully_annotate.proofs.annotation.verdict_of.Goals as goal

pub loop-row-preserved : goal.loop-row-preserved
loop-row-preserved c = record {
  judged = judged-taken c.args.trace.now.setup c.args.trace.now.rows c.loop-row.row-index c.loop-row.number c.row-item.result c.loop-row.judge c.feed_row.new.self
      (slice_get_read c.args.trace.now.rows _ c.loop-row.row-index c.row-item.result refl (search rules) (search rules)) c.loop-row.invariant.number c.feed_row.ensures.judged c.loop-row.invariant.judged;
  number = omega (arith, c.loop-row.invariant.number);
}

pub returns : goal.returns
returns c =
    let setup = c.args.trace.now.setup in
    let rows = c.args.trace.now.rows in
    (world_of c.loop-row.judge.world, c.verdict.ensures setup rows (judged-whole setup rows c.loop-row.row-index c.loop-row.judge (search rules) c.loop-row.invariant.judged))
