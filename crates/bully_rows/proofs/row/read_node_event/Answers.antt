use Rattle.std.proofs.Common.{◌≡◌, sym, subst, rules, List, ℕ}
use Rattle.std.specs.Option.{option_map}
use Rattle.csv.specs.Records.{fields_of}
use Rattle.bully_rows.specs.declared.node_event.NodeEvent.{NodeEvent}
use Rattle.bully_rows.specs.declared.trace.Row.{Row}
use Rattle.bully_calls.specs.Events.{event_at}
use Rattle.bully_rows.specs.Rows.{row_of}
use Rattle.bully_rows.proofs.FieldLemmas.{fields-two, some-mapped}
use Rattle.bully_rows.proofs.row.read_node_event.Goals as goal

pub returns-clause-event : goal.returns-clause-event
returns-clause-event c = λ setup.
    let row : NodeEvent → Row = λ e. Row.Event (event_at e.kind e.node) in
    let two = fields-two (fields_of c.args.fields.now) c.field.result.now c.field-2.result.now (search rules) c.field.ensures c.field-2.ensures in
    some-mapped row c.node_event.result (row_of c.args.version setup (fields_of c.args.fields.now)) (
    subst (λ (fs : List (List ℕ)). option_map row c.node_event.result ≡ row_of c.args.version setup fs) (sym two) (c.node_event.ensures setup))

pub returns-clause-none : goal.returns-clause-none
returns-clause-none c = λ setup none _.
    let row : NodeEvent → Row = λ e. Row.Event (event_at e.kind e.node) in
    let two = fields-two (fields_of c.args.fields.now) c.field.result.now c.field-2.result.now (search rules) c.field.ensures c.field-2.ensures in
    sym (rw none at (
    subst (λ (fs : List (List ℕ)). option_map row c.node_event.result ≡ row_of c.args.version setup fs) (sym two) (c.node_event.ensures setup)))
