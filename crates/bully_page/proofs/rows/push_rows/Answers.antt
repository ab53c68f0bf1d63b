use Rattle.std.proofs.Common.{◌+◌, ap, map, subst, sym, take}
use Rattle.bully_page.specs.Page.{row_text, rows_text, shown_row}
use Rattle.bully_picture.specs.Drawn.{is_shown}
use Rattle.bully_picture.specs.Written.{Writes}
use Rattle.bully_picture.proofs.WrittenLemmas.{pieces-all, pieces-more, writes-as}
use Rattle.bully_page.proofs.PageLemmas.{row-left-out, row-shown}
use Rattle.bully_page.proofs.rows.push_rows.Goals as goal
use Rattle.bully_page.proofs.rows.push_rows.Goals.{then-is_shown, else-is_shown}

pub loop-scene-preserved : goal.loop-scene-preserved
loop-scene-preserved c =
    let claims = c.args.claims in
    let verdict = c.args.finished.now.verdict in
    let nodes = c.args.finished.now.setup.nodes in
    let names = map (λ s. s.now) c.args.names.now in
    let scenes = c.as_slice-scene-items.result.now in
    let s = c.scene-item.result in
    let i = c.loop-scene.scene-index in
    let row = row_text verdict nodes names s in
    let more = pieces-more (shown_row claims verdict nodes names) scenes i s c.args.page.now c.loop-scene.page in
    elim c.if-is_shown.branch [
      | then-is_shown w ↦ subst (λ b. Writes c.args.page.now b (rows_text claims verdict nodes names (take (i + 1) scenes))) (sym w.page-is)
          (more w.push_row.new.page c.loop-scene-test.true c.scene-item.is c.loop-scene.invariant
          (row-shown c.is_shown.result (is_shown claims verdict s) row c.loop-scene.page w.push_row.new.page c.is_shown.ensures w.if-is_shown.true w.push_row.ensures))
      | else-is_shown w ↦ subst (λ b. Writes c.args.page.now b (rows_text claims verdict nodes names (take (i + 1) scenes))) (sym w.page-is)
          (more c.loop-scene.page c.loop-scene-test.true c.scene-item.is c.loop-scene.invariant
          (row-left-out c.is_shown.result (is_shown claims verdict s) row c.loop-scene.page c.is_shown.ensures w.if-is_shown.false))
    ]

pub returns : goal.returns
returns c =
    let finished = c.args.finished.now in
    let rows = rows_text c.args.claims finished.verdict finished.setup.nodes (map (λ s. s.now) c.args.names.now) in
    writes-as (ap rows c.as_slice-scene-items.ensures.value)
    (pieces-all (shown_row c.args.claims finished.verdict finished.setup.nodes (map (λ s. s.now) c.args.names.now)) c.as_slice-scene-items.result.now c.loop-scene.scene-index
    c.args.page.now c.loop-scene.page c.loop-scene-test.false c.loop-scene.invariant)
