use Rattle.std.proofs.Common.{◌++◌, codes, subst}
use Rattle.bully_picture.specs.Drawn.{bare_text}
use Rattle.bully_picture.specs.Told.{cells_text, change_text, form_of}
use Rattle.bully_picture.specs.Words.{meaning_text}
use Rattle.bully_picture.specs.Written.{Writes, right_text}
use Rattle.bully_picture.proofs.WrittenLemmas.{writes-then}
use Rattle.bully_picture.proofs.columns.push_line.Goals as goal

pub returns : goal.returns
returns c =
    let s = c.args.scene.now in
    let now = c.args.now.now in
    let old = c.args.lines.now in
    let new = c.push_meaning.new.paper in
    subst (λ d. Writes old new (codes "\n" ++ right_text s.number ++ codes "  " ++ cells_text (form_of c.args.finished.now.setup.nodes) now
    ++ change_text (form_of c.args.finished.now.setup.nodes) c.args.finished.now.setup.nodes s.other ++ bare_text s.event_kind s.own.node ++ meaning_text d s)) c.decides.ensures
    (subst (λ n. Writes old new (codes "\n" ++ right_text s.number ++ codes "  " ++ cells_text (form_of n) now ++ change_text (form_of n) n s.other ++ bare_text s.event_kind s.own.node
    ++ meaning_text c.decides.result s)) c.nodes-nodes.ensures.nodes
    (subst (λ form. Writes old new (codes "\n" ++ right_text s.number ++ codes "  " ++ cells_text form now ++ change_text form c.nodes-nodes.result s.other ++ bare_text s.event_kind s.own.node
    ++ meaning_text c.decides.result s)) c.of-form.ensures
    (writes-then (writes-then (writes-then (writes-then (writes-then (writes-then c.push.ensures c.push_right.ensures) c.push-2.ensures) c.push_cells.ensures) c.push_change.ensures)
    c.push_row_text.ensures) c.push_meaning.ensures)))
