use Rattle.bully_draft.proofs.DraftLemmas.{no-lines, one-line}
use Rattle.bully_draft.proofs.config.push_lines.Goals as goal

pub loop-line-init : goal.loop-line-init
loop-line-init c = no-lines c.args.draft.now

pub loop-line-preserved : goal.loop-line-preserved
loop-line-preserved c = one-line _ _ _ _ _ c.loop-line.invariant c.push_shown.ensures.shown c.push_shown.ensures.plain c.push_str.ensures
