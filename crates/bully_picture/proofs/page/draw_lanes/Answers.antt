use Rattle.bully_picture.proofs.BarLemmas.{lane_bars-all, lane_bars-more}
use Rattle.bully_picture.proofs.DrawnLemmas.{lanes-all, lanes-more}
use Rattle.bully_picture.proofs.page.draw_lanes.Goals as goal

pub loop-lane-preserved : goal.loop-lane-preserved
loop-lane-preserved c = record {
  bars = lane_bars-more c.args.shows_rows c.args.lanes.now c.loop-lane.lane-index c.lane-item.result c.as_slice.result.now c.loop-lane.bars c.draw_bars.new.paper
      c.loop-lane-test.true c.lane-item.is c.as_slice.ensures.value c.loop-lane.invariant.bars c.draw_bars.ensures;
  arrows = lanes-more c.args.lanes.now c.loop-lane.lane-index c.lane-item.result c.as_slice-in-loop-lane.result.now c.loop-lane.arrows c.draw_calls.new.arrows
      c.loop-lane-test.true c.lane-item.is c.as_slice-in-loop-lane.ensures.value c.loop-lane.invariant.arrows c.draw_calls.ensures;
}

pub returns-clause-bars : goal.returns-clause-bars
returns-clause-bars c = lane_bars-all c.args.shows_rows c.args.lanes.now c.loop-lane.lane-index c.loop-lane.bars c.loop-lane-test.false c.loop-lane.invariant.bars

pub returns-clause-arrows : goal.returns-clause-arrows
returns-clause-arrows c = lanes-all c.args.lanes.now c.loop-lane.lane-index c.loop-lane.arrows c.loop-lane-test.false c.loop-lane.invariant.arrows
