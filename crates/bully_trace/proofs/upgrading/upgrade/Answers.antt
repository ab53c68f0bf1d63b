-- What was written and counted is the upgraded trace of the one that was read.
use Rattle.std.proofs.Common.{◌≡◌, ℕ, length}
use Rattle.std.specs.Io.KnownBytes.{Appends}
use Rattle.bully_rows.specs.Trace.{Trace}
use Rattle.bully_rows.specs.TraceText.{trace_text}
use Rattle.bully_trace.proofs.UpgradeLemmas.{told-upgraded}
use Rattle.bully_trace.proofs.upgrading.upgrade.Goals as goal

pub returns-clause-written : goal.returns-clause-written
returns-clause-written g c =
    told-upgraded (g.R.Read.remaining c.args.reader) c.in_ok-trace.trace c.upgraded-newer.result c.write_counted.result
    (λ (count : ℕ) (trace : Trace). Appends (g.W.Write.contents c.args.writer.now) (g.W.Write.contents c.write_counted.new.writer) (trace_text trace))
    c.in_ok-trace.ensures.ok c.upgraded-newer.ensures c.write_counted.ensures.written

pub returns-clause-counted : goal.returns-clause-counted
returns-clause-counted g c =
    told-upgraded (g.R.Read.remaining c.args.reader) c.in_ok-trace.trace c.upgraded-newer.result c.write_counted.result
    (λ (count : ℕ) (trace : Trace). count ≡ length trace.rows)
    c.in_ok-trace.ensures.ok c.upgraded-newer.ensures c.write_counted.ensures.counted
