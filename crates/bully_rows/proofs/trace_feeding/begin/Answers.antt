use Rattle.bully_rows.proofs.HeaderLemmas.{header-fits}
use Rattle.bully_rows.proofs.trace_feeding.begin.Goals as goal

pub begin-requires : goal.begin-requires
begin-requires g c = header-fits c.args.rows.now.fields c.in_ok-header.header c.in_ok-header.ensures.ok
