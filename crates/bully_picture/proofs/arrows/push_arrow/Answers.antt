use Rattle.bully_picture.proofs.WrittenLemmas.{extends-then, extends-written, gains-later, has-written}
use Rattle.bully_picture.proofs.arrows.push_arrow.Goals as goal

pub returns : goal.returns
returns c = gains-later (extends-then c.push_line.ensures (extends-written c.push.ensures)) (has-written c.push_title.ensures)
