use Rattle.bully_explain.proofs.DifferingLemmas.{detailed-as}
use Rattle.bully_draft.proofs.DraftLemmas.{appends_then}
use Rattle.bully_explain.proofs.differing.push_told.Goals as goal

pub returns : goal.returns
returns c =
    detailed-as c.args.shown.now c.args.event.now c.number.result c.call_word.result.now c.kind_text.result.now c.callee_in.result c.answer_in.result c.number.ensures.number c.call_word.ensures
    c.kind_text.ensures c.callee_in.ensures c.answer_in.ensures
    (appends_then (appends_then (appends_then (appends_then c.push_between.ensures c.push_heads.ensures) c.push_words.ensures) c.push_nodes.ensures) c.push_answers.ensures)
