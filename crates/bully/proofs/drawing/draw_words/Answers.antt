use Rattle.std.proofs.Common.{◌≡◌, Some, None, option_map, rules}
use Rattle.bully.proofs.DrawLemmas.{drawn-named, drawn-unnamed}
use Rattle.bully.proofs.drawing.draw_words.Goals as goal

pub returns-in-Some-clause-answer : goal.returns-in-Some-clause-answer
returns-in-Some-clause-answer g c =
    let some : option_map (λ s. s.now) c.args.names ≡ Some c.in-Some.path.now = search rules in
    drawn-named (g.R.Read.remaining c.args.input) c.draw_named.ensures.answer.0 (option_map (λ s. s.now) c.args.names) c.in-Some.path.now c.args.drawing
    (g.W.Write.contents c.args.output.now) (g.W.Write.contents c.draw_named.new.output) (g.E.Write.contents c.args.errors.now) (g.E.Write.contents c.draw_named.new.errors)
    c.draw_named.result some c.draw_named.ensures.answer.1

pub returns-in-None-clause-answer : goal.returns-in-None-clause-answer
returns-in-None-clause-answer g c =
    let none : option_map (λ s. s.now) c.args.names ≡ None = search rules in
    drawn-unnamed (g.R.Read.remaining c.args.input) (option_map (λ s. s.now) c.args.names) c.args.drawing
    (g.W.Write.contents c.args.output.now) (g.W.Write.contents c.draw_input.new.output) (g.E.Write.contents c.args.errors.now) (g.E.Write.contents c.draw_input.new.errors)
    c.draw_input.result none c.draw_input.ensures.answer
