use Rattle.std.proofs.Common.{◌∙◌, ap, subst}
use Rattle.bully_picture.specs.Bars.{HasLaneBars, shows_rows}
use Rattle.bully_picture.specs.Written.{IsIn}
use Rattle.bully_picture.proofs.page.draw.Goals as goal

pub returns-clause-bars : goal.returns-clause-bars
returns-clause-bars c =
    subst (λ shows. IsIn c.draw_lanes-bars.result.bars (λ text. HasLaneBars text shows c.args.lanes.now)) (c.shows_rows.ensures ∙ ap shows_rows c.as_slice.ensures.value)
    c.draw_lanes-bars.ensures.bars
