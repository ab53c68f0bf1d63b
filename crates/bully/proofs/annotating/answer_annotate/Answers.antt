use Rattle.std.proofs.Common.{ap}
use Rattle.bully.proofs.AnnotateLemmas.{begun-alone, long-answer, none-annotated, unlawful-answer, written-answer}
use Rattle.bully.proofs.AnswerLemmas.{fault-answer}
use Rattle.bully.proofs.KnownBytesLemmas.{keeps-same}
use Rattle.bully.proofs.annotating.answer_annotate.Goals as goal

pub returns-in-Ok-Written-clause-answer : goal.returns-in-Ok-Written-clause-answer
returns-in-Ok-Written-clause-answer g c =
    written-answer g.W.Write.contents g.E.Write.contents (g.R.Read.remaining c.args.input) c.in-Ok-Written.field-0-0 c.args.output.now c.annotate.new.writer c.finish.new.output c.args.errors.now
    c.finish.new.errors c.finish.result (rw c.in-Ok-Written.field-0-is at c.in-Ok-Written.ensures.annotated) c.finish.ensures

pub returns-in-Ok-TooLong-clause-answer : goal.returns-in-Ok-TooLong-clause-answer
returns-in-Ok-TooLong-clause-answer g c =
    long-answer g.W.Write.contents g.E.Write.contents (g.R.Read.remaining c.args.input) c.args.output.now c.annotate.new.writer c.args.errors.now c.tell.new.errors
    (rw c.in-Ok-TooLong.field-0-is at c.in-Ok-TooLong.ensures.annotated) c.tell.ensures

pub returns-in-Ok-Unlawful-clause-answer : goal.returns-in-Ok-Unlawful-clause-answer
returns-in-Ok-Unlawful-clause-answer g c =
    unlawful-answer g.W.Write.contents g.E.Write.contents (g.R.Read.remaining c.args.input) c.in-Ok-Unlawful.verdict c.args.output.now c.annotate.new.writer c.args.errors.now c.answer_unlawful.new.errors
    c.answer_unlawful.result (rw c.in-Ok-Unlawful.field-0-is at c.in-Ok-Unlawful.ensures.annotated) c.answer_unlawful.ensures

pub returns-in-Err-clause-answer : goal.returns-in-Err-clause-answer
returns-in-Err-clause-answer g c =
    none-annotated (g.R.Read.remaining c.args.input) _ _ _ _ _
    (fault-answer c.in-Err.fault.cause (g.R.Read.remaining c.args.input) c.in-Err.fault _ _ _ _ _ c.in-Err.ensures.fault
    (λ silent. keeps-same _ _ (ap g.W.Write.contents (c.in-Err.ensures.silent silent))) c.in-Err.ensures.read c.answer_fault.ensures.form c.answer_fault.ensures.other)
    (begun-alone c.in-Err.fault.cause (g.R.Read.remaining c.args.input) (g.W.Write.contents c.args.output.now) (g.W.Write.contents c.annotate.new.writer)
    (λ silent. keeps-same _ _ (ap g.W.Write.contents (c.in-Err.ensures.silent silent))) c.in-Err.ensures.write)
