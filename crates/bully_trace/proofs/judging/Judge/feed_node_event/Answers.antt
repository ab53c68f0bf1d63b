-- Each kind of event is judged as the row that tells it.
use Rattle.std.proofs.Common.{rules}
use Rattle.bully_calls.specs.Events.{event_at}
use Rattle.bully_rows.specs.declared.trace.Row.{Row}
use Rattle.bully_trace.proofs.OneRowLemmas.{taken_judged}
use Rattle.bully_trace.proofs.judging.Judge.feed_node_event.Goals as goal

pub returns-in-Check-clause-judged : goal.returns-in-Check-clause-judged
returns-in-Check-clause-judged c = taken_judged c.args.number (Row.Event (event_at c.args.event.kind c.args.event.node)) c.args.self.now c.judge_event.new.self (search rules)

pub returns-in-Timeout-clause-judged : goal.returns-in-Timeout-clause-judged
returns-in-Timeout-clause-judged c = taken_judged c.args.number (Row.Event (event_at c.args.event.kind c.args.event.node)) c.args.self.now c.judge_event-in-Timeout.new.self (search rules)

pub returns-in-Start-clause-judged : goal.returns-in-Start-clause-judged
returns-in-Start-clause-judged c = taken_judged c.args.number (Row.Event (event_at c.args.event.kind c.args.event.node)) c.args.self.now c.judge_event-in-Start.new.self (search rules)

pub returns-in-Run-clause-judged : goal.returns-in-Run-clause-judged
returns-in-Run-clause-judged c = taken_judged c.args.number (Row.Event (event_at c.args.event.kind c.args.event.node)) c.args.self.now c.judge_event-in-Run.new.self (search rules)

pub returns-in-Lose-clause-judged : goal.returns-in-Lose-clause-judged
returns-in-Lose-clause-judged c = taken_judged c.args.number (Row.Event (event_at c.args.event.kind c.args.event.node)) c.args.self.now c.judge_event-in-Lose.new.self (search rules)

pub returns-in-Return-clause-judged : goal.returns-in-Return-clause-judged
returns-in-Return-clause-judged c = taken_judged c.args.number (Row.Event (event_at c.args.event.kind c.args.event.node)) c.args.self.now c.judge_event-in-Return.new.self (search rules)

pub returns-in-Move-clause-judged : goal.returns-in-Move-clause-judged
returns-in-Move-clause-judged c = taken_judged c.args.number (Row.Event (event_at c.args.event.kind c.args.event.node)) c.args.self.now c.judge_event-in-Move.new.self (search rules)

pub returns-in_default-clause-judged : goal.returns-in_default-clause-judged
returns-in_default-clause-judged c = taken_judged c.args.number (Row.Event (event_at c.args.event.kind c.args.event.node)) c.args.self.now c.judge_event-in_default.new.self (search rules)
