use Rattle.std.proofs.Common.{take, arith, rules}
use Rattle.std.proofs.lemmas.List.{take_more_set}
use Rattle.bully_table.specs.TableText.{pieces_of}
use Rattle.bully_rows.proofs.HeaderLemmas.{weights-more}
use Rattle.bully_rows.proofs.header.read_weights.Goals as goal

pub loop-weight-preserved : goal.loop-weight-preserved
loop-weight-preserved c =
    let (count, told) = c.in-Some.ensures in
    record {
      count = omega (arith, count, c.loop-weight.invariant.count);
      read = rw (take_more_set c.loop-weight.weights c.loop-weight.weight-index c.in-Some.number (search rules)) (
          weights-more (pieces_of c.args.text.now) c.loop-weight.pieces c.next_weight.new.pieces (take c.loop-weight.weight-index c.loop-weight.weights) c.in-Some.number
          c.loop-weight.invariant.read told);
    }
