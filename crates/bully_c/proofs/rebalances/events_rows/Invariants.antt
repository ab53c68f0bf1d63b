use Rattle.std.proofs.Common.{◌≡◌, string_bytes, take}
use Rattle.bully_c.specs.RebalanceRows.{events_text}
use Rattle.bully_c.proofs.rebalances.events_rows.Given as goal

abbrev pub invariant-loop-event : goal.invariant-loop-event
invariant-loop-event l = string_bytes l.text ≡ events_text (take l.event-index l.events)
