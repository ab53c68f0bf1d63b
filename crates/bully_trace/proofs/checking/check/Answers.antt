-- What the rows were judged is the verdict on the trace that was read.
use Rattle.std.proofs.Common.{rules}
use Rattle.std.specs.Io.KnownBytes.{Appends}
use Rattle.bully_world.specs.State.{world_of}
use Rattle.bully_trace.specs.declared.verdict.Verdict.{Verdict}
use Rattle.bully_trace.specs.Recorded.{RecordedAgreement}
use Rattle.bully_rows.specs.Trace.{Trace}
use Rattle.bully_trace.specs.Verdict.{AgreesAfterEachRow, IsLawfulCount}
use Rattle.bully_trace.proofs.CheckLemmas.{told-as, told-so}
use Rattle.bully_trace.proofs.JudgeLemmas.{agrees_after, lawful_count}
use Rattle.bully_trace.proofs.RecordedLemmas.{recorded}
use Rattle.bully_trace.proofs.checking.check.Goals as goal

pub returns-clause-verdict : goal.returns-clause-verdict
returns-clause-verdict g c =
    let judge = c.in_ok-judge.judge in
    told-as (g.R.Read.remaining c.args.reader) judge c.write_verdict.result (Appends (g.W.Write.contents c.args.writer.now) (g.W.Write.contents c.write_verdict.new.writer))
    c.write_verdict.ensures.verdict c.write_verdict.ensures.text c.in_ok-judge.ensures.judged

pub returns-clause-lawful : goal.returns-clause-lawful
returns-clause-lawful g c =
    let judge = c.in_ok-judge.judge in
    told-so (g.R.Read.remaining c.args.reader) judge c.write_verdict.result (λ (verdict : Verdict) (trace : Trace). IsLawfulCount trace verdict)
    c.write_verdict.ensures.verdict (λ verdict trace is. lawful_count trace verdict (world_of judge.world) is) c.in_ok-judge.ensures.judged

pub returns-clause-agreement : goal.returns-clause-agreement
returns-clause-agreement g c =
    let judge = c.in_ok-judge.judge in
    told-so (g.R.Read.remaining c.args.reader) judge c.write_verdict.result (λ (verdict : Verdict) (trace : Trace). AgreesAfterEachRow trace verdict)
    c.write_verdict.ensures.verdict (λ verdict trace is. agrees_after trace verdict (world_of judge.world) is) c.in_ok-judge.ensures.judged

pub returns-clause-recorded : goal.returns-clause-recorded
returns-clause-recorded g c =
    let judge = c.in_ok-judge.judge in
    told-so (g.R.Read.remaining c.args.reader) judge c.write_verdict.result (λ (verdict : Verdict) (trace : Trace). RecordedAgreement trace verdict)
    c.write_verdict.ensures.verdict (λ verdict trace is. recorded trace verdict (world_of judge.world) is) c.in_ok-judge.ensures.judged

pub returns-in_err-judge-clause-silent : goal.returns-in_err-judge-clause-silent
returns-in_err-judge-clause-silent g c = search rules

pub returns-clause-silent : goal.returns-clause-silent
returns-clause-silent g c = search rules
