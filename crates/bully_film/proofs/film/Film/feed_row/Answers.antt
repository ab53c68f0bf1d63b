-- Behind the row that decided nothing more is filmed.
use Rattle.std.proofs.Common.{refl, rules}
use Rattle.bully_film.specs.Scene.{said_in}
use Rattle.bully_film.proofs.FilmLemmas.{filmed-on, filmed-over, going-is}
use Rattle.bully_film.proofs.film.Film.feed_row.Goals as goal

pub returns-then-is_over-clause-filmed : goal.returns-then-is_over-clause-filmed
returns-then-is_over-clause-filmed c = λ setup rows at filmed. filmed-over setup rows c.args.row c.args.self.now (search rules) filmed

pub returns-clause-filmed : goal.returns-clause-filmed
returns-clause-filmed c = λ setup rows at filmed.
    filmed-on setup rows c.args.row c.args.number c.args.self.now c.judge_row.new.self c.keep_said.new.self (said_in c.args.row) c.look-scene_start.result c.keep_said.result refl (search rules) (search rules)
    c.judge_row.ensures.window c.judge_row.ensures.at_end c.judge_row.ensures.scenes (c.in_ok-judge_row.ensures.noted (going-is c.args.self.now.judge.stopped (search rules))) c.judge_row.ensures.judged c.keep_said.ensures.on at filmed
