use Rattle.std.proofs.Common.{◌≡◌, arith, subst, take}
use Rattle.std.proofs.lemmas.Grind.{common_steps}
use Rattle.std.proofs.lemmas.List.Elements.{All-more, All-same}
use Rattle.bully_base.proofs.NodeSetLemmas.{with_node-all}
use Rattle.bully_base.specs.Setup.{IsNode}
use Rattle.bully_c.proofs.SetLemmas.{members-more}
use Rattle.bully_c.proofs.traces.members_of.Goals as goal

pub loop-number-preserved : goal.loop-number-preserved
loop-number-preserved c =
    let numbers = c.args.numbers.now in let index = c.loop-number.number-index in let node = c.in_ok-node_of.field-0 in
    let is = c.in_ok-node_of.ensures.ok in (
      members-more index node numbers c.loop-number.members c.insert.new.self c.loop-number-test.true is.0 c.insert.ensures.members c.loop-number.invariant.0,
      rw (c.insert.ensures.after) (with_node-all (IsNode c.args.setup.now) node c.loop-number.members is.1 c.loop-number.invariant.1),
      All-more (IsNode c.args.setup.now) numbers index 0 c.loop-number-test.true c.loop-number.invariant.2 (subst (IsNode c.args.setup.now) is.0 is.1),
    )

pub returns-clause-set : goal.returns-clause-set
returns-clause-set c =
    let all : take c.loop-number.number-index c.args.numbers.now ≡ c.args.numbers.now = grind (arith, common_steps, c.loop-number-test.false) in
    record { falling = c.len-count.ensures.falling; same = λ j. rw all at (c.loop-number.invariant.0 j) }

pub returns-clause-all : goal.returns-clause-all
returns-clause-all c = All-same (IsNode c.args.setup.now) c.args.numbers.now _ (grind (arith, common_steps, c.loop-number-test.false)) c.loop-number.invariant.2
