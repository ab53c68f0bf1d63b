use Rattle.std.proofs.Common.{rules, tests}
use Rattle.std.proofs.lemmas.Iterator.{YieldsList-from_slice}
use Rattle.std.proofs.lemmas.Iterator.Search.{all_from_yields_List}
use Rattle.bully_rows.specs.Trace.{is_short}
use Rattle.bully_rows.proofs.trace.are_short.Goals as goal

pub returns : goal.returns
returns c = all_from_yields_List is_short _ _ _ c.all.ensures.ran (YieldsList-from_slice c.args.rows.now cc) (λ x b q k. search (rules, tests))
