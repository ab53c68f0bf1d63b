use Rattle.bully_picture.specs.Told.{cell_text}
use Rattle.bully_picture.proofs.WrittenLemmas.{pieces-all, pieces-more}
use Rattle.bully_picture.proofs.columns.push_cells.Goals as goal

pub loop-snapshot-preserved : goal.loop-snapshot-preserved
loop-snapshot-preserved c =
    pieces-more (cell_text c.args.form) c.args.now.now c.loop-snapshot.snapshot-index c.snapshot-item.result c.args.lines.now c.loop-snapshot.lines c.push_cell.new.lines
    c.loop-snapshot-test.true c.snapshot-item.is c.loop-snapshot.invariant c.push_cell.ensures

pub returns : goal.returns
returns c = pieces-all (cell_text c.args.form) c.args.now.now c.loop-snapshot.snapshot-index c.args.lines.now c.loop-snapshot.lines c.loop-snapshot-test.false c.loop-snapshot.invariant
