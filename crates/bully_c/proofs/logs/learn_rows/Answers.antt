use Rattle.std.proofs.Common.{rules}
use Rattle.bully_rows.specs.Rows.{records_of}
use Rattle.bully_c.proofs.LogRowLemmas.{ends-learning}
use Rattle.bully_c.proofs.logs.learn_rows.Goals as goal

pub returns-clause-learned : goal.returns-clause-learned
returns-clause-learned c =
    ends-learning (records_of c.args.text.now) c.open-reader.result c.args.learned.now c.learn_all.new.self c.in-Err.fault c.status_of_learning.result
    c.open-reader.ensures.number c.learn_all.ensures.within c.status_of_learning.ensures (c.in-Err.ensures.part (records_of c.args.text.now) (search rules))
