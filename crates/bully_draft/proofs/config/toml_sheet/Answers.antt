use Rattle.std.proofs.Common.{refl, rules}
use Rattle.bully_draft.proofs.ConfigLemmas.{toml-text}
use Rattle.bully_draft.proofs.config.toml_sheet.Goals as goal

pub returns-clause-lines : goal.returns-clause-lines
returns-clause-lines c = toml-text _ c.push_lines.new.draft _ refl (search rules) c.in_ok-text.ensures.whole c.in_ok-text.ensures.text
