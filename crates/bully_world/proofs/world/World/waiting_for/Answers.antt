-- The map of waiting callers tells the lowest of them.
use Rattle.std.proofs.Common.{◌≡◌, ◌<◌, length, arith, ap, subst}
use Rattle.bully_world.specs.State.{WorldState}
use Rattle.bully_world.specs.Waiting.{IsWaiting}
use Rattle.bully_world.proofs.WaitingLemmas.{IsLowestOf, lowest_waits, nobody_waits_past}
use Rattle.bully_world.proofs.world.World.waiting_for.Goals as goal
use Rattle.bully_world.proofs.world.World.waiting_for.Goals.{After-lowest}

is_lowest : (c : After-lowest) → IsLowestOf c.args.self.now c.args.callee c.lowest.result
is_lowest c =
    let is = subst (λ (w : WorldState). IsWaiting w.states c.self.inside.waiting) c.self.view_is c.self.invariant.1 in
    lowest_waits c.args.self.now c.self.inside.waiting c.args.callee c.lowest.result is c.lowest.ensures.lowest c.lowest.ensures.least

pub returns-then-number-nodes-clause-none : goal.returns-then-number-nodes-clause-none
returns-then-number-nodes-clause-none c =
    let is = subst (λ (w : WorldState). IsWaiting w.states c.self.inside.waiting) c.self.view_is c.self.invariant.1 in
    let count = subst (λ (w : WorldState). length w.states ≡ w.setup.nodes) c.self.view_is c.self.invariant.0.count in
    let past : length c.args.self.now.states < c.args.callee = omega (arith, count, c.nodes.ensures.nodes, c.number.ensures.number, c.if-number-nodes.true, ap (λ (w : WorldState). w.setup.nodes) c.self.view_is) in
    nobody_waits_past c.args.self.now c.self.inside.waiting c.args.callee is past

pub returns-clause-waits : goal.returns-clause-waits
returns-clause-waits c = (is_lowest c).0

pub returns-clause-lowest : goal.returns-clause-lowest
returns-clause-lowest c = (is_lowest c).1

pub returns-clause-none : goal.returns-clause-none
returns-clause-none c = (is_lowest c).2
