use Rattle.std.proofs.Common.{◌++◌, ℕ, Bool, codes, subst}
use Rattle.bully_picture.specs.Drawn.{said_text, tail_text}
use Rattle.bully_picture.specs.Escaping.{cut_text}
use Rattle.bully_picture.specs.Title.{Has}
use Rattle.bully_picture.specs.Written.{Gains}
use Rattle.bully_picture.proofs.ShownLemmas.{text-gained}
use Rattle.bully_picture.proofs.WrittenLemmas.{writes-then}
use Rattle.bully_picture.proofs.marks.draw_text.Goals as goal

pub returns : goal.returns
returns c =
    let s = c.args.scene.now in
    subst (λ colour. Gains c.args.texts.now c.push-4.new.self (λ text. (letters : ℕ) × (has_room : Bool)
    × Has text (codes " fill=\"" ++ colour ++ codes "\">" ++ cut_text letters (said_text s) ++ tail_text has_room c.args.decides s ++ codes "</text>\n")))
    c.colour_of.ensures
    (text-gained (codes " fill=\"" ++ c.colour_of.result.now ++ codes "\">") (said_text s) (λ has_room. tail_text has_room c.args.decides s) c.keep_text_free-letters.result c.has_room-has_room.result
    c.push_text_place.ensures (writes-then (writes-then (writes-then c.push.ensures c.push-2.ensures) c.push-3.ensures) c.push_cut_paper.ensures.cut)
    c.push_cut_paper.ensures.whole c.new-said.ensures c.push_said.ensures c.push_paper.ensures.copied c.push_paper.ensures.whole c.new-tail.ensures c.push_tail.ensures c.push-4.ensures)
