use Rattle.std.proofs.Common.{◌+◌, subst, sym, take}
use Rattle.bully_picture.specs.Drawn.{AreNumbers, scenes_shown}
use Rattle.bully_picture.specs.Written.{IsIn}
use Rattle.bully_picture.proofs.ShownLemmas.{numbers-all, numbers-more, numbers-none}
use Rattle.bully_picture.proofs.marks.draw_numbers.Goals as goal
use Rattle.bully_picture.proofs.marks.draw_numbers.Goals.{then-is_shown, else-is_shown}

pub loop-scene-preserved : goal.loop-scene-preserved
loop-scene-preserved c =
    let claims = c.args.claims in
    let verdict = c.args.finished.now.verdict in
    let scenes = c.as_slice-scene-items.result.now in
    let i = c.loop-scene.scene-index in
    let s = c.scene-item.result in
    elim c.if-is_shown.branch [
      | then-is_shown w ↦ subst (λ b. IsIn b (AreNumbers verdict (scenes_shown claims verdict (take (i + 1) scenes)))) (sym w.numbers-is)
          (numbers-more claims verdict scenes i s c.is_shown.result w.decides.result w.draw_number.ensures.0 c.loop-scene.numbers w.draw_number.new.numbers
          c.loop-scene-test.true c.scene-item.is c.is_shown.ensures w.if-is_shown.true w.decides.ensures c.loop-scene.invariant w.draw_number.ensures.1)
      | else-is_shown w ↦ subst (λ b. IsIn b (AreNumbers verdict (scenes_shown claims verdict (take (i + 1) scenes)))) (sym w.numbers-is)
          (numbers-none claims verdict scenes i s c.is_shown.result c.loop-scene.numbers c.loop-scene-test.true c.scene-item.is c.is_shown.ensures w.if-is_shown.false c.loop-scene.invariant)
    ]

pub returns : goal.returns
returns c =
    numbers-all c.args.claims c.args.finished.now.verdict c.as_slice-scene-items.result.now c.args.finished.now.scenes.items c.loop-scene.scene-index c.loop-scene.numbers
    c.loop-scene-test.false c.as_slice-scene-items.ensures.value c.loop-scene.invariant
