-- What names the nodes of a setup alone is within the limits of each version that goes with it.
use Rattle.std.proofs.Common.{◌≡◌, ℕ, ◌≤◌, List, length, map, All, arith, refl, ◌&&◌, nat_le}
use Rattle.std.proofs.lemmas.Bool.{and_parts}
use Rattle.std.proofs.lemmas.Bool.Decides.{nat_tests}
use Rattle.std.proofs.lemmas.List.{length-map}
use Rattle.std.proofs.lemmas.List.Elements.{All-map}
use Rattle.bully_base.specs.declared.TheConstants.{EVENTS_MAX}
use Rattle.bully_base.specs.Setup.{IsNode, IsSetup, Setup, is_even}
use Rattle.bully_calls.specs.declared.event.Event.{Event}
use Rattle.bully_calls.specs.Events.{node_of}
use Rattle.bully_rows.specs.declared.TheConstants.{FIRST_NODES_MAX, FIRST_PARTITIONS_MAX, ROWS_MAX}
use Rattle.bully_rows.specs.declared.header.Version.{Version}
use Rattle.bully_rows.specs.declared.trace.Row.{Row}
use Rattle.bully_rows.specs.Headers.{IsVersionFor, nodes_max, version_for}
use Rattle.bully_rows.specs.ReadBack.{AreOwners, IsEventTold, IsNamed, IsRowTold, IsTold}
use Rattle.bully_rows.specs.Trace.{trace_for, version_with}
use Rattle.bully_rows.proofs.HeaderLemmas.{version_fits_rows}

few-nodes : (version : Version) (setup : Setup) → IsSetup setup → IsVersionFor version setup → setup.nodes ≤ nodes_max version
few-nodes Version.One setup within fits =
    let (even, limits) = and_parts (is_even setup) (nat_le setup.nodes FIRST_NODES_MAX && nat_le setup.partitions FIRST_PARTITIONS_MAX) (fits refl) in
    let (few, parts) = and_parts (nat_le setup.nodes FIRST_NODES_MAX) (nat_le setup.partitions FIRST_PARTITIONS_MAX) limits in
    grind (arith, nat_tests, few)
few-nodes Version.Two setup within fits = within.nodes.1
few-nodes Version.Three setup within fits = within.nodes.1

pub node-named : (version : Version) (setup : Setup) (i : ℕ) → IsSetup setup → IsVersionFor version setup → IsNode setup i → IsNamed version i
node-named version setup i within fits node = let few = few-nodes version setup within fits in (node.0, omega (arith, node.1, few))

-- an event of a node, with an owner for each partition if it is a Plan
pub event-told : (version : Version) (setup : Setup) (e : Event) → IsSetup setup → IsVersionFor version setup → IsNode setup (node_of e)
    → ((i : ℕ) (table : List ℕ) → e ≡ Event.Plan i table → AreOwners setup table) → IsEventTold version setup e
event-told version setup (Event.Plan i table) within fits node owners = (node-named version setup i within fits node, owners i table refl)
event-told version setup e within fits node owners = node-named version setup (node_of e) within fits node

-- a trace of such events
pub events-told : (setup : Setup) (events : List Event) → IsSetup setup → setup.events_max ≡ EVENTS_MAX → length events ≤ ROWS_MAX
    → ((version : Version) → IsVersionFor version setup → All (IsEventTold version setup) events) → IsTold (trace_for setup (map Row.Event events))
events-told setup events within most few each =
    let rows = map Row.Event events in
    let version = version_with (version_for setup) rows in
    let (fits, forms) = version_fits_rows setup rows in
    let size = length-map events Row.Event in
    record {
      setup = within;
      events = most;
      version = fits;
      forms = forms;
      count = omega (arith, size, few);
      rows = All-map (IsRowTold version setup) Row.Event events (each version fits);
    }
