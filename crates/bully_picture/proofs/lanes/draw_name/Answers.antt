use Rattle.std.proofs.Common.{◌≡◌, true, false, arith}
use Rattle.std.specs.Prelude.{nat_le}
use Rattle.std.proofs.lemmas.Bool.Decides.{nat_tests}
use Rattle.bully_picture.specs.declared.layout.TheConstants.{WORDS_MIN}
use Rattle.bully_picture.specs.Written.{Extends}
use Rattle.bully_picture.proofs.WrittenLemmas.{extends-then, extends-written, gains-later, has-written, writes-then}
use Rattle.bully_picture.proofs.lanes.draw_name.Goals as goal

pub returns-in-Some : goal.returns-in-Some
returns-in-Some c =
    let placed : Extends c.args.paper.now c.push-2.new.self =
    extends-then (extends-written c.push_number.ensures) (extends-then (extends-written c.push_attribute.ensures) (extends-then (extends-written c.push.ensures) (extends-written c.push-2.ensures))) in
    rw c.in-Some.is (gains-later placed c.push_name.ensures)

pub returns-in-None : goal.returns-in-None
returns-in-None c =
    let wide : nat_le WORDS_MIN c.args.layout.now.lane ≡ true = grind (arith, nat_tests) in
    let placed : Extends c.args.paper.now c.push.new.self =
    extends-then (extends-written c.push_number.ensures) (extends-then (extends-written c.push_attribute.ensures) (extends-written c.push.ensures)) in
    rw (c.in-None.is, wide) (gains-later placed (has-written (writes-then c.push-2.ensures c.push_node.ensures)))

pub returns-in-None-2 : goal.returns-in-None-2
returns-in-None-2 c =
    let narrow : nat_le WORDS_MIN c.args.layout.now.lane ≡ false = grind (arith, nat_tests) in
    let placed : Extends c.args.paper.now c.push.new.self =
    extends-then (extends-written c.push_number.ensures) (extends-then (extends-written c.push_attribute.ensures) (extends-written c.push.ensures)) in
    rw (c.in-None-2.is, narrow) (gains-later placed (has-written (writes-then c.push-2.ensures c.push_node-in-None-2.ensures)))
