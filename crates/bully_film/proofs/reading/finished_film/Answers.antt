use Rattle.std.proofs.Common.{rules}
use Rattle.bully_film.proofs.ReadLemmas.{finished-is}
use Rattle.bully_film.proofs.reading.finished_film.Goals as goal

pub returns : goal.returns
returns c = λ known window filmed.
    finished-is known window c.args.film c.close.new.self c.into_finished.result filmed (search rules)
    c.into_finished.ensures.setup c.into_finished.ensures.judge c.into_finished.ensures.stop c.into_finished.ensures.scenes c.into_finished.ensures.at_end c.into_finished.ensures.verdict
