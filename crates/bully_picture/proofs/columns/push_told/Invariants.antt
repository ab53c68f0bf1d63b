use Rattle.std.proofs.Common.{◌≤◌, drop}
use Rattle.bully_picture.specs.Told.{told_behind}
use Rattle.bully_picture.proofs.ToldLemmas.{HasTold}
use Rattle.bully_picture.proofs.columns.push_told.Given as goal

abbrev pub invariant-loop-scene : goal.invariant-loop-scene
invariant-loop-scene l = record {
  told : HasTold l.initial.lines l.lines l.finished.verdict l.finished.setup.nodes l.quiet (told_behind l.now (drop l.scene-index l.scene-items)) (told_behind l.initial.now l.scene-items);
  few : l.quiet ≤ l.scene-index;
}
