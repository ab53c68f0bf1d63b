use Rattle.std.proofs.Common.{ap}
use Rattle.bully_picture.specs.Told.{heads_text}
use Rattle.bully_picture.proofs.WrittenLemmas.{writes-as, writes-then}
use Rattle.bully_picture.proofs.columns.push_rows.Goals as goal

pub returns : goal.returns
returns c = writes-then (writes-then (writes-as (ap heads_text c.nodes.ensures.nodes) c.push_heads.ensures) c.push_told.ensures) c.push.ensures
