-- Where an event that nothing refuses is applied.
use Rattle.std.proofs.Common.{◌≡◌, ◌+◌, ◌<◌, ◌≤◌, ℕ, List, length, None, arith, slice_index_or}
use Rattle.std.proofs.lemmas.Bool.Decides.{nat_tests}
use Rattle.bully_base.proofs.PlaceLemmas.{at_node-place}
use Rattle.bully_base.specs.Setup.{Setup, IsNode}
use Rattle.bully_calls.specs.declared.event.Event.{Event}
use Rattle.bully_calls.specs.Events.{node_of}
use Rattle.bully_world.specs.Cause.{cause}
use Rattle.bully_world.specs.State.{kept_of, StoredNode, empty_state}
use Rattle.bully_world.specs.World.{World}

-- there is room for the event, and its node is one of the setup's
pub room_of : (setup : Setup) (w : World) (count : ℕ) (e : Event) → cause setup w count e ≡ None → count < setup.events_max
room_of setup w count e n = grind (arith, n, nat_tests)

pub node_in_setup : (setup : Setup) (w : World) (count : ℕ) (e : Event) → cause setup w count e ≡ None → IsNode setup (node_of e)
node_in_setup setup w count e n = grind (arith, n, nat_tests)

-- what stands at a node's place is what is kept of it
pub place_of_node : (ms : List StoredNode) (i k : ℕ) (m : StoredNode) → i ≤ length ms → k + 1 ≡ i → kept_of ms i ≡ slice_index_or ms k m
place_of_node ms i k m l is = at_node-place (empty_state 0) m ms k i is (omega (arith, l, is))
