-- What is kept of the rows of a trace: those of a window, each with what it shows, and how the nodes stand after the
-- last of them.
use Rattle.std.specs.Prelude.{◌≡◌, ◌⊎◌, ℕ, ◌+◌, ◌-◌, ◌<◌, ◌≤◌, ◌++◌, List, [], ◌∷◌, length, drop, min, nat_lt, nat_le}
use Rattle.std.specs.Prelude.{◌==◌, true, false, is_none, is_some, slice_get, if◌then◌else◌, Option, Some, None}
use Rattle.std.specs.Prelude.{MatchOption}
use Rattle.std.specs.Option.{option_and_then}
use Rattle.bully_base.specs.Setup.{Setup}
use Rattle.bully_rows.specs.declared.header.Header.{Header}
use Rattle.bully_rows.specs.declared.trace.Row.{Row}
use Rattle.bully_rows.specs.Feeding.{IsWhollyTaken}
use Rattle.bully_rows.specs.Trace.{Trace}
use Rattle.bully_trace.specs.Judging.{HasJudged, JudgeState}
use Rattle.bully_trace.specs.declared.verdict.Verdict.{Verdict}
use Rattle.bully_trace.specs.Verdict.{IsVerdict}
use Rattle.bully_world.specs.State.{world_of}
use Rattle.bully_world.specs.World.{World}
use Rattle.bully_film.specs.declared.film.FinishedFilm.{FinishedFilm}
use Rattle.bully_calls.specs.declared.kind.EventKind.{EventKind}
use Rattle.bully_film.specs.declared.scene.SceneStart.{SceneStart}
use Rattle.bully_film.specs.declared.scene.Scene.{Scene}
use Rattle.bully_film.specs.declared.snapshot.NodeSnapshot.{NodeSnapshot}
use Rattle.bully_film.specs.Behind.{world_behind}
use Rattle.bully_film.specs.Scene.{IsSceneStart, event_kind_in, node_in, said_in, scene_of, scenes_from, snapshots_of}
use Rattle.bully_film.specs.Window.{IsWindow, WindowState}

-- a film: the judge that takes the rows, the window, what each row that is kept shows, the row that decided, and, once
-- the window's last row was taken, how the nodes stand after it
pub record FilmState : Type 0 where
  pub judge : JudgeState
  pub window : WindowState
  pub scenes : List Scene
  pub stop : Option Row
  pub at_end : Option (List NodeSnapshot)

-- the number of the row that decided; none where the verdict is lawful
abbrev pub deciding : Verdict → Option ℕ
deciding (Verdict.Lawful count) = None
deciding (Verdict.Refused number why) = Some number
deciding (Verdict.Differs number) = Some number

-- the same, where no verdict but a lawful one came yet
abbrev pub decided : Option Verdict → Option ℕ
decided stopped = option_and_then deciding stopped

-- the row of this number, of those after the header; none where there is no number
abbrev pub IsRowAt : List Row → Option ℕ → Option Row → Type 0
IsRowAt rows None stop = stop ≡ None
IsRowAt rows (Some number) stop = (row : Row) × (stop ≡ Some row) × (slice_get rows (number - 2) ≡ Some row)

-- the number of the last row up to the one that decided: that one, or the last of all where none did
abbrev pub last_judged : List Row → Option ℕ → ℕ
last_judged rows None = length rows + 1
last_judged rows (Some number) = number

-- one more scene is kept, where its row isn't before the window; the oldest one goes where as many are kept as may be
abbrev pub kept : WindowState → List Scene → Scene → List Scene
kept window scenes s =
    if nat_lt s.number window.from then scenes
    else (if nat_le window.most (length scenes) then drop 1 scenes else scenes) ++ s ∷ []

-- how the nodes stand now is kept, where it wasn't yet
abbrev pub closed : FilmState → FilmState
closed film = record film {
  at_end = elim film.at_end as (λ _. Option (List NodeSnapshot)) [
    | None ↦ Some (snapshots_of (world_of film.judge.world) 1 film.judge.world.setup.nodes)
    | Some at_end ↦ Some at_end
  ];
}

-- what is seen of a row before it is taken, with this kind of event, that names node i; nothing where the window's last
-- row was taken
abbrev pub IsLook : FilmState → ℕ → Option EventKind → Option SceneStart → Type 0
IsLook film i event_kind None = is_none film.at_end ≡ false
IsLook film i event_kind (Some scene_start) =
    (is_none film.at_end ≡ true) × IsSceneStart (world_of film.judge.world) i event_kind scene_start

-- the row of this number was judged, where none had decided: it decided, and is kept; or it didn't, and none is
abbrev pub IsNoted : ℕ → Row → FilmState → FilmState → Type 0
IsNoted number row film after =
    ((decided after.judge.stopped ≡ Some number) × (after.stop ≡ Some row))
    ⊎ ((after.judge.stopped ≡ None) × (after.stop ≡ film.stop))

-- the row is kept, where one decided
abbrev pub noted : Row → FilmState → FilmState
noted row film = if is_some film.judge.stopped then record film { stop = Some row } else film

-- after a row of this number that was judged, of which this was seen before it, and which says this, what it shows is
-- kept, and how the nodes stand at the window's last row; nothing of a row of which nothing was seen
abbrev pub GoesOn : ℕ → Option Row → Option SceneStart → FilmState → FilmState → Type 0
GoesOn number said None film after = after ≡ film
GoesOn number said (Some scene_start) film after = (w : World) (row : Row) → said ≡ said_in row
    → IsSceneStart w (node_in row) (event_kind_in row) scene_start
    → (shot : FilmState)
    × (shot ≡ record film {
      scenes = kept film.window film.scenes (scene_of film.judge.world.setup w (world_of film.judge.world) number row);
    })
    × (after ≡ (if number == shot.window.to then closed shot else shot))

-- of the rows before and after them these are those of the window: they start where it does; or there are none, since
-- the rows end before it; or they are the last ones, as many as are kept
abbrev pub IsInWindow : WindowState → List Row → List Row → Type 0
IsInWindow window before shown =
    ((length before + 2 ≡ window.from) × (length shown ≤ window.most))
    ⊎ ((length before + 2 < window.from) × (shown ≡ []))
    ⊎ ((window.from < length before + 2) × (length shown ≡ window.most))

-- how the nodes stand after the rows before and those shown is kept, and the last of these has this number; or it
-- isn't kept yet: the judge took just these rows, P holds of the last one's number, and no row is beyond them unless
-- one decided
abbrev pub IsAtEnd : Setup → List Row → List Row → List Row → JudgeState → ℕ → (ℕ → Type 0) → Option (List NodeSnapshot)
    → Type 0
IsAtEnd setup before shown beyond judge to P at_end = MatchOption at_end
    (HasJudged setup (before ++ shown) judge × (judge.stopped ≡ None → beyond ≡ [])
    × P (length before + length shown + 1))
    (λ kept. (length before + length shown + 1 ≡ to)
    × (kept ≡ snapshots_of (world_behind setup (before ++ shown)) 1 setup.nodes))

-- the rows of a trace were filmed: those that are shown, each with what it shows, and others before and beyond them.
-- They end at the window's last row, or at the last one up to that which decided. How the nodes stand is kept at the
-- window's last row
pub record HasFilmedUp (setup : Setup) (rows : List Row) (film : FilmState) (P : ℕ → Type 0) : Type 0 where
  pub before : List Row
  pub shown : List Row
  pub beyond : List Row
  pub all : rows ≡ before ++ shown ++ beyond
  pub fits : IsWindow film.window
  pub judged : HasJudged setup rows film.judge
  pub scenes : film.scenes ≡ scenes_from setup before shown
  pub window : IsInWindow film.window before shown
  pub unlawful : decided film.judge.stopped ≡ None → film.judge.stopped ≡ None
  pub stop : IsRowAt rows (decided film.judge.stopped) film.stop
  pub ends : length before + length shown + 1 ≡ min film.window.to (last_judged rows (decided film.judge.stopped))
  pub at_end : IsAtEnd setup before shown beyond film.judge film.window.to P film.at_end

abbrev pub HasFilmed : Setup → List Row → FilmState → Type 0
HasFilmed setup rows film = HasFilmedUp setup rows film (λ last. last < film.window.to)

-- the same after the row that was taken last, which may be the window's last one
abbrev pub HasShot : Setup → List Row → FilmState → Type 0
HasShot setup rows film = HasFilmedUp setup rows film (λ last. (last ≡ length rows + 1) × (last ≤ film.window.to))

-- what a film shows is that of the rows of a trace in a window: the verdict is the trace's, the judge took all of its
-- rows, and the row that decided is kept, none exactly of a lawful trace. Of each row in the window the film has what
-- it shows, and how the nodes stand after the last of them. They end with the window, or else with the row that
-- decided, or with the last one of a lawful trace
pub record IsFilmOf (asked : WindowState) (finished : FinishedFilm) (trace : Trace) : Type 0 where
  pub same : finished.setup ≡ trace.setup
  pub judged : (w : World) × IsVerdict trace finished.verdict w
  pub judge : HasJudged trace.setup trace.rows finished.judge
  pub stop : IsRowAt trace.rows (deciding finished.verdict) finished.stop
  pub before : List Row
  pub shown : List Row
  pub beyond : List Row
  pub all : trace.rows ≡ before ++ shown ++ beyond
  pub scenes : finished.scenes.items ≡ scenes_from trace.setup before shown
  pub window : IsInWindow asked before shown
  pub ends : length before + length shown + 1 ≡ min asked.to (last_judged trace.rows (deciding finished.verdict))
  pub at_end : finished.at_end.items ≡ snapshots_of (world_behind trace.setup (before ++ shown)) 1 trace.setup.nodes

-- the rows of a trace with this header were filmed, for this window
abbrev pub HasFilmedBehind : WindowState → Header → List Row → FilmState → Type 0
HasFilmedBehind window header rows film = HasFilmed header.setup rows film × (film.window ≡ window)

-- all rows of a text were filmed
abbrev pub AreAllFilmed : Option (List ℕ) → WindowState → FilmState → Type 0
AreAllFilmed known window = IsWhollyTaken (HasFilmedBehind window) known
