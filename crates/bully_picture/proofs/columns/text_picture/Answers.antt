use Rattle.std.proofs.Common.{◌∙◌, ◌++◌, ap}
use Rattle.bully_picture.proofs.columns.text_picture.Goals as goal

pub returns-clause-whole : goal.returns-clause-whole
returns-clause-whole c = λ window trace is. c.in_ok-push_str.ensures.bytes ∙ ap (λ t. t ++ c.args.below.now) (c.in_ok-text.ensures.whole window trace is)
