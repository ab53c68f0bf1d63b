use Rattle.std.proofs.Common.{◌≡◌, ◌==◌, true, false, arith}
use Rattle.std.proofs.lemmas.Bool.Decides.{nat_tests}
use Rattle.bully_picture.proofs.WrittenLemmas.{writes-nothing}
use Rattle.bully_page.proofs.changes.push_other.Goals as goal

pub returns-then-ne : goal.returns-then-ne
returns-then-ne c =
    let other : (c.args.scene.now.other.node == c.args.scene.now.own.node) ≡ false = grind (arith, nat_tests, c.ne.ensures, c.if-ne.true) in
    rw other c.push_change.ensures

pub returns-else-ne : goal.returns-else-ne
returns-else-ne c =
    let same : (c.args.scene.now.other.node == c.args.scene.now.own.node) ≡ true = grind (arith, nat_tests, c.ne.ensures, c.if-ne.false) in
    rw same (writes-nothing c.args.page.now)
