use Rattle.std.proofs.Common.{◌++◌, [], codes, subst}
use Rattle.std.specs.Fmt.{decimal}
use Rattle.bully_picture.specs.Written.{Writes}
use Rattle.bully_picture.proofs.WrittenLemmas.{writes-then}
use Rattle.bully_picture.proofs.words.push_row_text.Goals as goal

pub returns : goal.returns
returns c =
    subst (λ word. Writes c.args.paper.now c.push_node.new.self (word ++ (codes "," ++ decimal c.args.scene.now.own.node ++ []))) c.word_of.ensures
    (writes-then c.push.ensures c.push_node.ensures)
