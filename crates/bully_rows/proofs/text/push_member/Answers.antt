use Rattle.std.proofs.Common.{◌≡◌, ◌+◌, true, arith}
use Rattle.std.specs.String.{string_bytes}
use Rattle.bully_base.specs.declared.TheConstants.{NODES_MAX}
use Rattle.bully_base.proofs.NodeSetLemmas.{Contains-from, Has, Has-from}
use Rattle.bully_rows.proofs.SetTextLemmas.{below-without, grown}
use Rattle.bully_rows.proofs.text.push_member.Goals as goal

pub returns-then-not-has : goal.returns-then-not-has
returns-then-not-has c = λ start so_far.
    let set = c.args.set.now in
    let none : Has set c.args.node → ⊥ = λ has.
    let there : c.has.result ≡ true = c.has.ensures.1 (Contains-from set c.args.node has) in
    grind (arith, there, c.if-not-has.true) in
    rw (below-without c.args.node set none) so_far

pub returns : goal.returns
returns c = λ start so_far.
    let set = c.args.set.now in
    let there : c.has.result ≡ true = grind (arith, c.if-not-has.false) in
    let has = Has-from set c.args.node (c.has.ensures.0 there) in
    grown c.args.node (NODES_MAX + 1) set c.below.result start (string_bytes c.args.text.now) (string_bytes c.push_gap.new.text) (string_bytes c.write.new.self) c.write.result
    c.requires has c.below.ensures so_far c.in_ok-push_gap.ensures (rw c.number-number.ensures.number at c.write.ensures.bytes)
