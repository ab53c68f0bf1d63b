use Rattle.bully_draft.specs.Drafted.{AppendsLines}
use Rattle.bully_draft.proofs.config.push_lines.Given as goal

abbrev pub invariant-loop-line : goal.invariant-loop-line
invariant-loop-line l = AppendsLines l.initial.draft l.draft
