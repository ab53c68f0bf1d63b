-- An answer by name: an edit that breaks it is refused at once.
use Rattle.std.proofs.Common.{rules}
use Rattle.bully_draft.proofs.ConfigLemmas.{line-text}
use Rattle.bully_draft.proofs.config.document_sheet.Goals as goal

pub returns-clause-told : goal.returns-clause-told
returns-clause-told c = search rules

pub returns-clause-lines : goal.returns-clause-lines
returns-clause-lines c =
    line-text _ _ _ c.in_ok-text.ensures.line c.in_ok-text.ensures.plain c.in_ok-text.ensures.whole c.new-draft.ensures c.push_document_head.ensures c.push_shown.ensures.shown
