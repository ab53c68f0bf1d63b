use Rattle.std.proofs.Common.{◌++◌, codes, map, subst}
use Rattle.bully_page.specs.Page.{changes_text, effects_text, summary_text}
use Rattle.bully_picture.specs.Written.{Writes}
use Rattle.bully_picture.proofs.WrittenLemmas.{writes-then}
use Rattle.bully_page.proofs.rows.push_row.Goals as goal

pub returns : goal.returns
returns c =
    let s = c.args.scene.now in
    subst (λ d. Writes c.args.page.now c.push.new.self
    (summary_text d s ++ changes_text c.args.finished.now.setup.nodes (map (λ n. n.now) c.args.names.now) s ++ effects_text d s ++ codes "</details>\n")) c.decides-decides.ensures
    (writes-then (writes-then (writes-then c.push_summary.ensures c.push_changes.ensures) c.push_effects.ensures) c.push.ensures)
