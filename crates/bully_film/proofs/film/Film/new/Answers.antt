use Rattle.std.proofs.Common.{rules}
use Rattle.bully_film.proofs.FilmLemmas.{filmed-first}
use Rattle.bully_film.proofs.film.Film.new.Goals as goal

pub returns-clause-filmed : goal.returns-clause-filmed
returns-clause-filmed c =
    filmed-first c.args.header.setup c.in_ok-film.film c.close_at.new.self (search rules) c.in_ok-film.ensures.judged c.in_ok-film.ensures.stopped
    c.in_ok-film.ensures.empty.1 c.in_ok-film.ensures.empty.2 c.in_ok-film.ensures.empty.3 (search rules)
