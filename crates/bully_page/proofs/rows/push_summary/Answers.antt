use Rattle.std.proofs.Common.{◌++◌, codes, subst}
use Rattle.std.specs.Fmt.{decimal}
use Rattle.bully_picture.specs.Drawn.{said_text}
use Rattle.bully_picture.specs.Words.{meaning_text}
use Rattle.bully_picture.specs.Written.{Writes}
use Rattle.bully_picture.proofs.WrittenLemmas.{writes-then}
use Rattle.bully_page.proofs.rows.push_summary.Goals as goal

pub returns : goal.returns
returns c =
    let s = c.args.scene.now in
    subst (λ word. Writes c.args.page.now c.push-2.new.self (codes "<details id=\"row" ++ decimal s.number ++ codes "\"" ++ word
    ++ (codes "><summary><b>" ++ decimal s.number ++ codes "</b> ") ++ said_text s ++ meaning_text c.args.decides s ++ codes "</summary>\n")) c.opening.ensures
    (writes-then (writes-then (writes-then (writes-then (writes-then c.push_number.ensures c.push.ensures) c.push_number-2.ensures) c.push_said.ensures) c.push_meaning.ensures) c.push-2.ensures)
