use Rattle.std.proofs.Common.{rules}
use Rattle.bully_trace.proofs.OneRowLemmas.{taken_judged}
use Rattle.bully_trace.proofs.judging.Judge.feed_row.Goals as goal

pub returns-in-Event-clause-judged : goal.returns-in-Event-clause-judged
returns-in-Event-clause-judged c = taken_judged c.args.number c.args.row.now c.args.self.now c.judge_event.new.self (search rules)

pub returns-in-Detailed-clause-judged : goal.returns-in-Detailed-clause-judged
returns-in-Detailed-clause-judged c = taken_judged c.args.number c.args.row.now c.args.self.now c.judge_detailed.new.self (search rules)

pub returns-in-Claim-clause-judged : goal.returns-in-Claim-clause-judged
returns-in-Claim-clause-judged c = taken_judged c.args.number c.args.row.now c.args.self.now c.judge_claim.new.self (search rules)

pub returns-in-Whole-clause-judged : goal.returns-in-Whole-clause-judged
returns-in-Whole-clause-judged c = taken_judged c.args.number c.args.row.now c.args.self.now c.judge_whole.new.self (search rules)
