use Rattle.bully_explain.proofs.SheetLemmas.{sheet-of}
use Rattle.bully_explain.proofs.explaining.read_sheet.Goals as goal

pub returns-clause-told : goal.returns-clause-told
returns-clause-told g c = λ known unread.
    sheet-of known _ _ _ _ (c.in_ok-told.ensures.told known unread) c.in_ok-told.ensures.account (c.in_ok-told.ensures.taken known unread) c.in_ok-text.ensures.sheet c.in_ok-text.ensures.form
