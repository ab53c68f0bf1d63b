use Rattle.std.proofs.Common.{◌++◌, codes, subst}
use Rattle.std.specs.Fmt.{decimal}
use Rattle.bully_picture.specs.Written.{Writes}
use Rattle.bully_picture.proofs.WrittenLemmas.{writes-then}
use Rattle.bully_picture.proofs.marks.push_digits.Goals as goal

pub returns : goal.returns
returns c =
    subst (λ colour. Writes c.args.numbers.now c.push_number-2.new.self
    ((codes "<text x=\"48\" y=\"" ++ decimal c.args.y ++ codes "\" font-size=\"10\" text-anchor=\"end\" fill=\"") ++ colour ++ (codes "\">" ++ decimal c.args.number ++ codes "</text>\n")))
    c.colour_of.ensures (writes-then (writes-then c.push_number.ensures c.push.ensures) c.push_number-2.ensures)
