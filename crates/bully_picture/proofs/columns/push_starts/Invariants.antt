use Rattle.std.proofs.Common.{◌≡◌, ◌+◌, ◌-◌, ◌++◌}
use Rattle.bully_rows.specs.Trace.{Trace}
use Rattle.bully_film.specs.Behind.{world_behind}
use Rattle.bully_film.specs.Film.{IsFilmOf}
use Rattle.bully_film.specs.Scene.{snapshots_of}
use Rattle.bully_film.specs.Window.{WindowState}
use Rattle.bully_picture.proofs.columns.push_starts.Given as goal

abbrev pub invariant-loop-before : goal.invariant-loop-before
invariant-loop-before l = record {
  rest : (window : WindowState) (trace : Trace) (is : IsFilmOf window l.finished trace)
      → l.now.items ++ snapshots_of (world_behind trace.setup is.before) (l.before + 1) (l.finished.setup.nodes - l.before) ≡ snapshots_of (world_behind trace.setup is.before) 1 l.finished.setup.nodes;
  end : l.before-end ≡ l.finished.setup.nodes;
}
