use Rattle.bully_rows.proofs.ReadBackLemmas.{reads-back}
use Rattle.bully_rows.proofs.ToldTraces.{reads-told}
use Rattle.bully_rows.proofs.read_back.Goals as goal

pub returns-clause-written : goal.returns-clause-written
returns-clause-written c = reads-back

pub returns-clause-read : goal.returns-clause-read
returns-clause-read c = reads-told
