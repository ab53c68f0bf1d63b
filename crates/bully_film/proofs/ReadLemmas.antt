-- What a finished film shows of the rows of a text.
use Rattle.std.proofs.Common.{◌≡◌, ◌∙◌, ◌<◌, ◌++◌, ℕ, List, Option, Some, None, refl, sym, subst, ap}
use Rattle.std.specs.Prelude.{IfSome, min}
use Rattle.bully_base.specs.Setup.{Setup}
use Rattle.bully_world.specs.State.{world_of}
use Rattle.bully_world.specs.World.{first_world}
use Rattle.bully_rows.specs.declared.header.Version.{Version}
use Rattle.bully_rows.specs.declared.trace.Row.{Row}
use Rattle.bully_rows.specs.Rows.{OfTrace}
use Rattle.bully_rows.specs.Trace.{headed}
use Rattle.bully_trace.specs.Judging.{HasJudged}
use Rattle.bully_trace.specs.Verdict.{IsJudged}
use Rattle.bully_film.specs.declared.film.FinishedFilm.{FinishedFilm}
use Rattle.bully_film.specs.declared.snapshot.NodeSnapshot.{NodeSnapshot}
use Rattle.bully_film.specs.Behind.{world_behind}
use Rattle.bully_film.specs.Film.{AreAllFilmed, FilmState, HasFilmed, IsAtEnd, IsFilmOf, IsRowAt, closed, decided, deciding, last_judged}
use Rattle.bully_film.specs.Scene.{snapshots_of}
use Rattle.bully_film.specs.Window.{WindowState}
use Rattle.bully_film.proofs.BehindLemmas.{decided-told, judged-world}

-- what is said of a film that was closed
record Finishes (film : FilmState) (finished : FinishedFilm) : Type 0 where
  same : finished.setup ≡ film.judge.world.setup
  judge : finished.judge ≡ film.judge
  stop : finished.stop ≡ film.stop
  scenes : finished.scenes.items ≡ film.scenes
  at_end : IfSome film.at_end (λ at_end. finished.at_end.items ≡ at_end)
  verdict : (setup : Setup) (rows : List Row) → HasJudged setup rows film.judge → IsJudged setup (first_world setup) 0 2 rows finished.verdict (world_of film.judge.world)

-- what a film shows, once how the nodes stand is kept
finished-rows : (setup : Setup) (version : Version) (window : WindowState) (rows : List Row) (film : FilmState) (finished : FinishedFilm) → HasFilmed setup rows film → film.window ≡ window
    → Finishes (closed film) finished
    → IsFilmOf window finished (record { version = version; setup = setup; rows = rows })
finished-rows setup version window rows film finished filmed same_window finishes = record {
  same = finishes.same ∙ filmed.judged.same;
  judged = (world_of film.judge.world, told);
  judge = subst (HasJudged setup rows) (sym finishes.judge) filmed.judged;
  stop = subst (λ stop. IsRowAt rows (deciding finished.verdict) stop) (sym finishes.stop) (subst (λ number. IsRowAt rows number film.stop) (sym row) filmed.stop);
  before = filmed.before;
  shown = filmed.shown;
  beyond = filmed.beyond;
  all = filmed.all;
  scenes = finishes.scenes ∙ filmed.scenes;
  window = rw (← same_window) filmed.window;
  ends = filmed.ends ∙ ap (λ number. min film.window.to (last_judged rows number)) (sym row)
      ∙ ap (λ (w : WindowState). min w.to (last_judged rows (deciding finished.verdict))) same_window;
  at_end = by_at_end film.at_end refl filmed.at_end;
}
  where
    told : IsJudged setup (first_world setup) 0 2 rows finished.verdict (world_of film.judge.world)
    told = finishes.verdict setup rows filmed.judged

    row : deciding finished.verdict ≡ decided film.judge.stopped
    row = decided-told setup rows film.judge finished.verdict (world_of film.judge.world) filmed.judged told

    by_at_end : (kept : Option (List NodeSnapshot)) → film.at_end ≡ kept
        → IsAtEnd setup filmed.before filmed.shown filmed.beyond film.judge film.window.to (λ last. last < film.window.to) kept
        → finished.at_end.items ≡ snapshots_of (world_behind setup (filmed.before ++ filmed.shown)) 1 setup.nodes
    by_at_end None is (judged, going, upto) =
        let now : finished.at_end.items ≡ snapshots_of (world_of film.judge.world) 1 film.judge.world.setup.nodes = rw is at finishes.at_end in
        now
        ∙ ap (λ (s : Setup). snapshots_of (world_of film.judge.world) 1 s.nodes) judged.same
        ∙ ap (λ w. snapshots_of w 1 setup.nodes) (judged-world setup (filmed.before ++ filmed.shown) film.judge judged)
    by_at_end (Some s) is (last, nodes) =
        let now : finished.at_end.items ≡ s = rw is at finishes.at_end in
        now ∙ nodes

pub finished-is : (known : Option (List ℕ)) (window : WindowState) (film after : FilmState) (finished : FinishedFilm) → AreAllFilmed known window film → after ≡ closed film
    → finished.setup ≡ after.judge.world.setup → finished.judge ≡ after.judge → finished.stop ≡ after.stop → finished.scenes.items ≡ after.scenes
    → IfSome after.at_end (λ at_end. finished.at_end.items ≡ at_end)
    → ((setup : Setup) (rows : List Row) → HasJudged setup rows after.judge → IsJudged setup (first_world setup) 0 2 rows finished.verdict (world_of after.judge.world))
    → OfTrace known (IsFilmOf window finished)
finished-is None window film after finished all is same_setup judge stop scenes at_end verdict = tt
finished-is (Some bytes) window film after finished (header, rows, means, within, (filmed, in_window)) is same_setup judge stop scenes at_end verdict = (
  headed header rows,
  means,
  finished-rows header.setup header.version window rows film finished filmed in_window
      (subst (λ f. Finishes f finished) is (record { same = same_setup; judge = judge; stop = stop; scenes = scenes; at_end = at_end; verdict = verdict })),
)
