use Rattle.std.proofs.Common.{◌≡◌, ◌++◌, true, false, codes, subst, arith}
use Rattle.std.specs.Fmt.{decimal}
use Rattle.std.specs.Prelude.{nat_le}
use Rattle.std.proofs.lemmas.Bool.Decides.{nat_tests}
use Rattle.bully_picture.specs.Words.{followed_text}
use Rattle.bully_picture.specs.Written.{Writes}
use Rattle.bully_picture.proofs.WrittenLemmas.{writes-nothing, writes-then}
use Rattle.bully_picture.proofs.columns.push_after.Goals as goal

pub returns-then-number-nodes : goal.returns-then-number-nodes
returns-then-number-nodes c =
    let change = c.args.change.now in
    let within : nat_le change.node c.args.nodes ≡ true = grind (arith, nat_tests, c.number.ensures.number, c.if-number-nodes.true) in
    rw within
    (subst (λ word. Writes c.args.lines.now c.push_followed.new.paper ((codes "  " ++ decimal change.node ++ codes ": ") ++ followed_text word (codes " ") change.after.coordinator)) c.word.ensures
    (writes-then c.push_node.ensures c.push_followed.ensures))

pub returns-else-number-nodes : goal.returns-else-number-nodes
returns-else-number-nodes c =
    let beyond : nat_le c.args.change.now.node c.args.nodes ≡ false = grind (arith, nat_tests, c.number.ensures.number, c.if-number-nodes.false) in
    rw beyond (writes-nothing c.args.lines.now)
