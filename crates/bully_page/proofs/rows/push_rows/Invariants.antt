use Rattle.std.proofs.Common.{map, take}
use Rattle.bully_page.specs.Page.{rows_text}
use Rattle.bully_picture.specs.Written.{Writes}
use Rattle.bully_page.proofs.rows.push_rows.Given as goal

abbrev pub invariant-loop-scene : goal.invariant-loop-scene
invariant-loop-scene l = Writes l.initial.page l.page (rows_text l.claims l.finished.verdict l.finished.setup.nodes (map (λ s. s.now) l.names) (take l.scene-index l.scene-items))
