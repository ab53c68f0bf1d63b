use Rattle.bully_cli.specs.Words.{text_of}
use Rattle.bully.specs.Inputs.{bounded_in, remaining_in}
use Rattle.bully_text.specs.Bounded.{bounded_left}
use Rattle.bully.proofs.AskedLemmas.{explained-to}
use Rattle.bully.proofs.answering.act_on.Goals as goal

pub returns-in-Explain-clause-answer : goal.returns-in-Explain-clause-answer
returns-in-Explain-clause-answer g c =
    rw c.in-Explain.is (explained-to (text_of c.in-Explain.words.file) (text_of c.in-Explain.words.config) (text_of c.in-Explain.words.json)
    (bounded_left (remaining_in g.R.Read.remaining g.F.Read.remaining) c.new-in-Explain.result)
    (bounded_in (remaining_in g.R.Read.remaining g.F.Read.remaining c.args.input)) (g.W.Write.contents c.args.output.now) (g.W.Write.contents c.answer_explain.new.output)
    (g.E.Write.contents c.args.errors.now) (g.E.Write.contents c.answer_explain.new.errors) c.answer_explain.result c.new-in-Explain.ensures c.answer_explain.ensures.answer)
