-- What stands at the callee's place is its node state.
use Rattle.std.proofs.Common.{◌<◌, length, arith}
use Rattle.bully_world.specs.State.{node_state_of, world_in}
use Rattle.bully_world.proofs.CauseAt.{node_state-place, down-test}
use Rattle.bully_world.proofs.causes.callee_down.Goals as goal

pub returns-in-Some : goal.returns-in-Some
returns-in-Some c =
    let within : c.place_of.result < length c.args.states.now = grind (arith, c.requires, c.in-Some.is, c.call.ensures, c.slot.ensures) in
    let here = node_state-place c.args.states.now c.place_of.result c.in-Some.call.callee c.index-states-place_of.result c.place_of.ensures within c.index-states-place_of.is in
    grind (arith, down-test (world_in c.args.states.now) c.in-Some.call.callee (node_state_of c.index-states-place_of.result) c.is_down.result here c.is_down.ensures.0 c.is_down.ensures.1, c.in-Some.is, c.call.ensures, c.slot.ensures)
