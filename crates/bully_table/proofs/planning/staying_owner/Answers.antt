use Rattle.std.proofs.Common.{◌+◌, ◌≡◌, ◌≤◌, length, arith}
use Rattle.std.proofs.lemmas.Bool.Decides.{nat_tests}
use Rattle.std.proofs.lemmas.Grind.{common_steps}
use Rattle.bully_base.specs.declared.TheConstants.{NODES_MAX}
use Rattle.bully_table.specs.Planning.{owner_at}
use Rattle.bully_table.proofs.StayLemmas.{stays-past}
use Rattle.bully_table.proofs.TakerLemmas.{stays-left}
use Rattle.bully_table.proofs.planning.staying_owner.Goals as goal

pub returns-in_err-owner-clause-owner : goal.returns-in_err-owner-clause-owner
returns-in_err-owner-clause-owner c = λ quotas members falling outside lefts.
    let past : length c.args.before.now ≤ c.args.place = grind (arith, nat_tests) in
    let test = stays-past quotas (NODES_MAX + 1) c.args.before.now members c.args.place falling past in
    rw test c.from_residual.ensures

pub returns-then-left-eq0-clause-owner : goal.returns-then-left-eq0-clause-owner
returns-then-left-eq0-clause-owner c = λ quotas members falling outside lefts.
    let is : owner_at c.args.before.now c.args.place ≡ c.in_ok-owner.field-0.now = grind (arith, nat_tests, common_steps) in
    let test = stays-left quotas c.args.before.now members c.args.place c.in_ok-owner.field-0.now _ (outside c.in_ok-owner.field-0.now) is (lefts c.in_ok-owner.field-0.now c.place_of.ensures.within) in
    grind (arith, nat_tests, test)

pub returns-clause-owner : goal.returns-clause-owner
returns-clause-owner c = λ quotas members falling outside lefts.
    let is : owner_at c.args.before.now c.args.place ≡ c.in_ok-owner.field-0.now = grind (arith, nat_tests, common_steps) in
    let test = stays-left quotas c.args.before.now members c.args.place c.in_ok-owner.field-0.now _ (outside c.in_ok-owner.field-0.now) is (lefts c.in_ok-owner.field-0.now c.place_of.ensures.within) in
    grind (arith, nat_tests, test, is)
