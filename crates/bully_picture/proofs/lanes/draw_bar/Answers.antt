use Rattle.bully_picture.proofs.BarLemmas.{bar-written}
use Rattle.bully_picture.proofs.lanes.draw_bar.Goals as goal

pub returns : goal.returns
returns c =
    bar-written c.args.shows_rows c.args.node c.args.bar.now c.bar_look.result.now c.bar_end.result.now c.args.paper.now c.push_bar_place.new.paper c.push.new.self c.push_title.new.paper c.push-2.new.self
    c.push_bar_place.ensures c.bar_look.ensures c.push.ensures c.push_title.ensures c.push-2.ensures
