use Rattle.bully_picture.proofs.BarLemmas.{bars-all, bars-one}
use Rattle.bully_picture.proofs.lanes.draw_bars.Goals as goal

pub loop-bar-preserved : goal.loop-bar-preserved
loop-bar-preserved c =
    bars-one c.args.shows_rows c.args.node c.args.bars.now c.loop-bar.bar-index c.bar-item.result c.args.paper.now c.loop-bar.paper c.draw_bar.new.paper
    c.loop-bar-test.true c.bar-item.is c.loop-bar.invariant c.draw_bar.ensures

pub returns-in-Some : goal.returns-in-Some
returns-in-Some c = bars-all c.args.shows_rows c.args.node c.args.bars.now c.loop-bar.bar-index c.args.paper.now c.loop-bar.paper c.loop-bar-test.false c.loop-bar.invariant

pub returns-in_default : goal.returns-in_default
returns-in_default c = bars-all c.args.shows_rows c.args.node c.args.bars.now c.loop-bar.bar-index c.args.paper.now c.loop-bar.paper c.loop-bar-test.false c.loop-bar.invariant
