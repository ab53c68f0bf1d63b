use Rattle.std.proofs.Common.{string_bytes}
use Rattle.bully.proofs.DrawLemmas.{text-picture}
use Rattle.bully.proofs.drawing.picture_in.Goals as goal

pub returns-in-Text : goal.returns-in-Text
returns-in-Text c =
    rw c.in-Text.is (text-picture string_bytes c.text_picture.result c.args.finished.now c.args.below.now c.text_picture.ensures.verdict c.text_picture.ensures.whole c.text_picture.ensures.below)

pub returns-in-Svg : goal.returns-in-Svg
returns-in-Svg c = rw c.in-Svg.is c.svg_of.ensures

pub returns-in-Page : goal.returns-in-Page
returns-in-Page c = rw c.in-Page.is c.page_of.ensures
