use Rattle.std.proofs.Common.{◌∙◌, ap}
use Rattle.bully_rows.specs.Words.{status_word}
use Rattle.bully_explain.proofs.DifferingLemmas.{claimed-as}
use Rattle.bully_draft.proofs.DraftLemmas.{appends_then}
use Rattle.bully_explain.proofs.differing.push_claimed.Goals as goal

pub returns : goal.returns
returns c =
    claimed-as c.args.vector.now.vector c.args.claim c.number.result c.status_word.result.now c.status_word-2.result.now c.coordinator.result c.number.ensures.number c.status_word.ensures
    (c.status_word-2.ensures ∙ ap status_word c.status.ensures) c.coordinator.ensures
    (appends_then (appends_then (appends_then c.push_between.ensures c.push_heads.ensures) c.push_words.ensures) c.push_nodes.ensures)
