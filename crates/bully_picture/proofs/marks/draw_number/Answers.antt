use Rattle.bully_picture.proofs.marks.draw_number.Goals as goal

pub returns : goal.returns
returns c = (_, c.push_digits.ensures)
