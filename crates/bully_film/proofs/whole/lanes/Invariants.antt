use Rattle.std.proofs.Common.{◌≡◌, length}
use Rattle.bully_film.specs.Film.{IsFilmOf}
use Rattle.bully_film.specs.Lane.{AreLanes, row_before}
use Rattle.bully_film.specs.Scene.{lane_of}
use Rattle.bully_film.specs.Window.{WindowState}
use Rattle.bully_rows.specs.Trace.{Trace}
use Rattle.bully_film.proofs.whole.lanes.Given as goal

abbrev pub invariant-loop-before : goal.invariant-loop-before
invariant-loop-before l = record {
  lanes : (window : WindowState) (trace : Trace) (is : IsFilmOf window l.finished trace) → AreLanes (λ i. lane_of trace.setup is.before i is.shown) (row_before l.finished.scenes.items) 1 l.lanes.items;
  count : length l.lanes.items ≡ l.before;
  end : l.before-end ≡ l.finished.setup.nodes;
}
