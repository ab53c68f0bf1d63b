-- A row that tells an event of a node and no more is filmed as any other one.
use Rattle.std.proofs.Common.{None, rules}
use Rattle.bully_rows.specs.declared.trace.Row.{Row}
use Rattle.bully_calls.specs.Events.{event_at}
use Rattle.bully_film.specs.Film.{IsLook}
use Rattle.bully_film.specs.Scene.{event_kind_in, node_in}
use Rattle.bully_film.proofs.FilmLemmas.{filmed-on, filmed-over, going-is, node-bare, node-told}
use Rattle.bully_film.proofs.film.Film.feed_node_event.Goals as goal

pub returns-then-is_over-clause-filmed : goal.returns-then-is_over-clause-filmed
returns-then-is_over-clause-filmed c = λ setup rows at filmed.
    filmed-over setup rows (Row.Event (event_at c.args.event.kind c.args.event.node)) c.args.self.now (search rules) filmed

pub returns-clause-filmed : goal.returns-clause-filmed
returns-clause-filmed c = λ setup rows at filmed.
    let row : Row = Row.Event (event_at c.args.event.kind c.args.event.node) in
    let look : IsLook c.args.self.now (node_in row) (event_kind_in row) c.look-scene_start.result = rw (node-told c.args.event.kind c.args.event.node) (search rules) in
    filmed-on setup rows row c.args.number c.args.self.now c.judge_event.new.self c.keep_shown.new.self None c.look-scene_start.result c.keep_shown.result
    (node-bare c.args.event.kind c.args.event.node) (search rules) look
    c.judge_event.ensures.window c.judge_event.ensures.at_end c.judge_event.ensures.scenes (c.judge_event.ensures.noted (going-is c.args.self.now.judge.stopped (search rules))) c.judge_event.ensures.judged c.keep_shown.ensures.on at filmed
