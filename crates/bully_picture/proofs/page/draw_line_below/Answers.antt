use Rattle.bully_picture.proofs.WrittenLemmas.{extends-written, gains-later, has-written, writes-then}
use Rattle.bully_picture.proofs.page.draw_line_below.Goals as goal

pub returns : goal.returns
returns c = gains-later (extends-written c.push_number.ensures) (has-written (writes-then (writes-then c.push.ensures c.push_cut.ensures) c.push-2.ensures))
