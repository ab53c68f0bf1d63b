use Rattle.std.proofs.Common.{◌≡◌, ◌+◌, None, take, subst, sym, rules}
use Rattle.bully_picture.specs.Drawn.{HasHoldings, held_label}
use Rattle.bully_picture.specs.Title.{Has}
use Rattle.bully_picture.specs.Written.{Gains}
use Rattle.bully_picture.proofs.DrawnLemmas.{empty-gains, holdings-all, holdings-one}
use Rattle.bully_picture.proofs.arrows.draw_calls.Goals as goal
use Rattle.bully_picture.proofs.arrows.draw_calls.Goals.{in-Some, in_default}

pub loop-place-preserved : goal.loop-place-preserved
loop-place-preserved c =
    let h = c.index-holdings-place.result in
    let i = c.args.node in
    elim c.match-holding.branch [
      | in-Some w ↦ subst (λ b. Gains c.args.arrows.now b (λ text. HasHoldings text i (take (c.loop-place.place + 1) c.args.holdings.now))) (sym w.arrows-is)
          (holdings-one i c.args.holdings.now c.loop-place.place h c.args.arrows.now c.loop-place.arrows w.draw_held.new.arrows c.loop-place-test.true c.index-holdings-place.is c.loop-place.invariant
          (subst (λ held. Gains c.loop-place.arrows w.draw_held.new.arrows (λ text. Has text (held_label i h.first h.last held))) (sym w.in-Some.is) w.draw_held.ensures))
      | in_default w ↦ subst (λ b. Gains c.args.arrows.now b (λ text. HasHoldings text i (take (c.loop-place.place + 1) c.args.holdings.now))) (sym w.arrows-is)
          (let none : h.seen ≡ None = search rules in
          holdings-one i c.args.holdings.now c.loop-place.place h c.args.arrows.now c.loop-place.arrows c.loop-place.arrows c.loop-place-test.true c.index-holdings-place.is c.loop-place.invariant
          (empty-gains i h.first h.last h.seen c.loop-place.arrows none))
    ]

pub returns : goal.returns
returns c = holdings-all c.args.node c.args.holdings.now c.loop-place.place c.args.arrows.now c.loop-place.arrows c.loop-place-test.false c.loop-place.invariant
