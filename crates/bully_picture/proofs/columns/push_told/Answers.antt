use Rattle.std.proofs.Common.{◌≡◌, ◌∙◌, List, ap, arith, sym}
use Rattle.bully_base.specs.Places.{put_node}
use Rattle.bully_film.specs.declared.snapshot.NodeSnapshot.{NodeSnapshot}
use Rattle.bully_picture.specs.Told.{stood, told_behind, told_text}
use Rattle.bully_picture.proofs.ToldLemmas.{told-all, told-first, told-line, told-none}
use Rattle.bully_picture.proofs.WrittenLemmas.{writes-as}
use Rattle.bully_picture.proofs.columns.push_told.Goals as goal
use Rattle.bully_picture.proofs.columns.push_told.Goals.{then-speaks, else-speaks}

pub loop-scene-init : goal.loop-scene-init
loop-scene-init c = record {
  told = told-first c.args.lines.now c.args.finished.now.verdict c.args.finished.now.setup.nodes (told_behind c.args.now.now c.as_slice-scene-items.result.now);
  few = omega arith;
}

pub loop-scene-preserved : goal.loop-scene-preserved
loop-scene-preserved c =
    let verdict = c.args.finished.now.verdict in
    let nodes = c.args.finished.now.setup.nodes in
    let scenes = c.as_slice-scene-items.result.now in
    let rows = told_behind c.args.now.now scenes in
    let s = c.scene-item.result in
    let i = c.loop-scene.scene-index in
    let stands : c.put-in-loop-scene.new.now ≡ stood c.loop-scene.now s = c.put-in-loop-scene.ensures ∙ ap (λ (l : List NodeSnapshot). put_node l s.own.node s.own.after) c.put.ensures in
    record {
      told = elim c.if-speaks.branch [
        | then-speaks w ↦ rw (w.lines-is, w.quiet-is)
            (told-line verdict nodes c.loop-scene.quiet c.loop-scene.now c.put-in-loop-scene.new.now scenes rows i s c.args.lines.now c.loop-scene.lines w.push_quiet.new.lines w.push_line.new.lines
            c.loop-scene-test.true c.scene-item.is stands (sym c.speaks.ensures ∙ w.if-speaks.true) c.loop-scene.invariant.told w.push_quiet.ensures w.push_line.ensures)
        | else-speaks w ↦ rw (w.lines-is, w.quiet-is)
            (told-none verdict nodes c.loop-scene.quiet c.loop-scene.now c.put-in-loop-scene.new.now scenes rows i s c.args.lines.now c.loop-scene.lines
            c.loop-scene-test.true c.scene-item.is stands (sym c.speaks.ensures ∙ w.if-speaks.false) c.loop-scene.invariant.told)
      ];
      few = elim c.if-speaks.branch [ then-speaks w ↦ omega (arith, w.quiet-is) | else-speaks w ↦ omega (arith, w.quiet-is, c.loop-scene.invariant.few) ];
    }

pub returns : goal.returns
returns c =
    let verdict = c.args.finished.now.verdict in
    let nodes = c.args.finished.now.setup.nodes in
    let scenes = c.as_slice-scene-items.result.now in
    writes-as (ap (λ l. told_text verdict nodes 0 (told_behind c.args.now.now l)) c.as_slice-scene-items.ensures.value)
    (told-all verdict nodes c.loop-scene.quiet c.loop-scene.now scenes (told_behind c.args.now.now scenes) c.loop-scene.scene-index c.args.lines.now c.loop-scene.lines c.push_quiet-2.new.lines
    c.loop-scene-test.false c.loop-scene.invariant.told c.push_quiet-2.ensures)
