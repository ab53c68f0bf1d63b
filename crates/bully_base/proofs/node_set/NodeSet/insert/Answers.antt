use Rattle.std.proofs.Common.{◌≡◌, ◌≤◌, ◌+◌, ◌⊎◌, ◌∙◌, arith, ap}
use Rattle.std.proofs.lemmas.Bool.Decides.{nat_tests}
use Rattle.bully_base.specs.NodeSet.{with_node}
use Rattle.bully_base.proofs.NodeSetLemmas.{with_node-members}
use Rattle.bully_base.proofs.RowLemmas.{insert-step}
use Rattle.bully_base.proofs.UsedLemmas.{insert-row}
use Rattle.bully_base.proofs.node_set.NodeSet.insert.Goals as goal

pub invariant_of-self : goal.invariant_of-self
invariant_of-self c =
    let used = c.self.inside.used in
    let place = c.place_of-place.result in
    let next = c.max-self-inside.result in
    let low : used ≤ next = grind (arith, nat_tests, c.max-self-inside.ensures) in
    let here : place + 1 ≤ next = grind (arith, nat_tests, c.max-self-inside.ensures) in
    let one : (next ≡ used) ⊎ (next ≡ place + 1) = grind (arith, nat_tests, c.max-self-inside.ensures) in
    insert-row c.self.inside.words used c.args.node place c.bit_of.result next c.self.invariant c.place_of-place.ensures.within c.bit_of.ensures.bit low here one

pub returns-clause-after : goal.returns-clause-after
returns-clause-after c =
    insert-step c.self.inside.words c.args.node c.place_of-place.result c.bit_of.result (c.self.invariant.0, c.self.invariant.1) c.bit_of.ensures.within c.place_of-place.ensures.place c.bit_of.ensures.bit ∙
    ap (with_node c.args.node) c.self.view_is

pub returns-clause-members : goal.returns-clause-members
returns-clause-members c = λ j. rw (returns-clause-after c) (with_node-members c.args.self.now c.args.node j)
