use Rattle.bully_draft.proofs.ShownLemmas.{bytes-printed}
use Rattle.bully_draft.proofs.shown.push_bytes.Goals as goal

pub returns-clause-printed : goal.returns-clause-printed
returns-clause-printed c = bytes-printed c.args.raw.now

pub returns-in_err-push-clause-printed : goal.returns-in_err-push-clause-printed
returns-in_err-push-clause-printed c = bytes-printed c.args.raw.now
