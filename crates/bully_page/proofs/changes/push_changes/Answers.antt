use Rattle.std.proofs.Common.{◌≡◌, true, false, arith}
use Rattle.std.specs.Prelude.{nat_le}
use Rattle.std.proofs.lemmas.Bool.Decides.{nat_tests}
use Rattle.bully_picture.proofs.WrittenLemmas.{writes-then}
use Rattle.bully_page.proofs.changes.push_changes.Goals as goal

pub returns-then-number-nodes : goal.returns-then-number-nodes
returns-then-number-nodes c =
    let within : nat_le c.args.scene.now.own.node c.args.finished.now.setup.nodes ≡ true = grind (arith, nat_tests, c.number.ensures.number, c.nodes.ensures.nodes, c.if-number-nodes.true) in
    rw within (writes-then (writes-then (writes-then c.push.ensures c.push_change.ensures) c.push_other.ensures) c.push-then-number-nodes.ensures)

pub returns-else-number-nodes : goal.returns-else-number-nodes
returns-else-number-nodes c =
    let beyond : nat_le c.args.scene.now.own.node c.args.finished.now.setup.nodes ≡ false = grind (arith, nat_tests, c.number.ensures.number, c.nodes.ensures.nodes, c.if-number-nodes.false) in
    rw beyond c.push_node.ensures
