use Rattle.bully.proofs.explaining.answer_explain.Goals as goal

pub returns-in_default-clause-answer : goal.returns-in_default-clause-answer
returns-in_default-clause-answer g c = rw c.in_default.is (rw c.is_given-is_json.ensures at c.explain_trace.ensures.answer)
