use Rattle.std.proofs.Common.{OnOk, rules}
use Rattle.std.specs.Io.KnownBytes.{Appends}
use Rattle.bully_rows.specs.TraceText.{trace_text}
use Rattle.bully_rows.proofs.ReadBackLemmas.{written-means}
use Rattle.bully_rows.proofs.writing.write_trace.Goals as goal

pub returns-clause-read_back : goal.returns-clause-read_back
returns-clause-read_back g c =
    let before = g.W.Write.contents c.args.writer.now in
    let behind = g.W.Write.contents c.write_all.new.self in
    let grows : OnOk c.map_err.result (Appends before behind (trace_text c.args.trace.now)) = search rules in
    written-means c.map_err.result c.args.trace.now before behind grows
