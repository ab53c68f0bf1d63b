use Rattle.std.proofs.Common.{string_bytes}
use Rattle.bully.proofs.DrawLemmas.{svg-picture}
use Rattle.bully.proofs.drawing.svg_of.Goals as goal

pub returns : goal.returns
returns c =
    svg-picture (λ s. s.now) string_bytes c.svg_picture.result c.args.claims c.args.around c.args.finished.now c.args.names.now c.args.below.now
    c.svg_picture.ensures.document c.svg_picture.ensures.head c.svg_picture.ensures.rows c.svg_picture.ensures.says c.svg_picture.ensures.nodes c.svg_picture.ensures.bars c.svg_picture.ensures.calls c.svg_picture.ensures.below
