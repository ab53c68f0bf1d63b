use Rattle.std.proofs.Common.{◌≡◌, map, take}
use Rattle.bully_rows.specs.declared.trace.Row.{Row}
use Rattle.bully_watch.specs.History.{event_of}
use Rattle.bully_nodes.proofs.writing.rows_of.Given as goal

abbrev pub invariant-loop-entry : goal.invariant-loop-entry
invariant-loop-entry l = l.rows.items ≡ map Row.Event (map event_of (take l.entry-index l.entries))
