-- What the program answers to `draw`: the status, and what then stands on the output and on the errors.
use Rattle.std.specs.Prelude.{◌≡◌, ◌⊎◌, ℕ, Bool, true, false, List, [], ◌++◌, Option, Some, None, MatchOption, Ok}
use Rattle.std.specs.Prelude.{length, slice_get, if◌then◌else◌}
use Rattle.std.specs.Io.KnownBytes.{Appends, Keeps}
use Rattle.bully_rows.specs.declared.trace.Row.{Row}
use Rattle.bully_rows.specs.Rows.{records_of, trace_of}
use Rattle.bully_rows.specs.Trace.{Trace}
use Rattle.bully_rows.specs.TraceText.{line_of, row_fields}
use Rattle.bully_trace.specs.VerdictText.{verdict_head}
use Rattle.bully_config.specs.Configuration.{Configuration}
use Rattle.bully_film.specs.declared.film.FinishedFilm.{FinishedFilm}
use Rattle.bully_film.specs.Film.{IsFilmOf}
use Rattle.bully_film.specs.Lane.{row_before}
use Rattle.bully_film.specs.Scene.{lane_of}
use Rattle.bully_film.specs.Window.{WindowState, at_the_end, window_in}
use Rattle.bully_picture.specs.Bars.{HasStands, shows_rows}
use Rattle.bully_picture.specs.Drawn.{HasBelow, HasCalls, HasNodes, HasRows, HasSaid, scenes_shown}
use Rattle.bully_picture.specs.Head.{HasHead}
use Rattle.bully_picture.specs.Title.{Begins, Ends, Has, IsDocument, title_text}
use Rattle.bully_picture.specs.Told.{columns_text, told_from}
use Rattle.bully_cli.specs.Words.{Drawn}
use Rattle.bully_page.specs.Page.{HasLines, HasRowsOf, IsPage, headed, page_text, rows_text, titled}
use Rattle.bully_picture.specs.declared.around.Around.{Around}
use Rattle.bully_picture.specs.declared.claims.Claims.{Claims}
use Rattle.bully.specs.declared.drawing.Drawing.{Drawing}
use Rattle.bully.specs.declared.drawing.Form.{Form}
use Rattle.bully.specs.Answer.{IsBadWord, IsShort, IsUntaken, KnownBytes, is_given, verdict_status}
use Rattle.bully.specs.BadWords.{html_line, rows_line}
use Rattle.bully.specs.ConfigAnswer.{IsNotDone}
use Rattle.bully.specs.Wanted.{ReadsAs}

-- the window of the rows that are asked for; of the last ones where none are
abbrev pub window_asked : Option (List ℕ) → Option WindowState
window_asked None = Some at_the_end
window_asked (Some rows) = window_in rows

-- the names of the nodes, from node 1 on: those of a configuration; none without one
abbrev pub names_in : Option Configuration → List (List ℕ)
names_in None = []
names_in (Some config) = config.names

-- the text below a picture: the line of the row that decided, as in a trace, and more after it; nothing where none
-- decided
abbrev pub IsBelow : Option Row → List ℕ → Type 0
IsBelow None below = below ≡ []
IsBelow (Some row) below = Begins below (line_of (row_fields row))

-- a picture as text: it starts with the verdict's line, and ends with this text; and it is which rows are shown, all of
-- the lines of those that change something, with how each node stands after it, and nothing else
pub record IsTextOf (finished : FinishedFilm) (text picture : List ℕ) : Type 0 where
  pub verdict : Begins picture (verdict_head finished.verdict)
  pub whole : (window : WindowState) (trace : Trace) (is : IsFilmOf window finished trace)
      → picture ≡ columns_text finished.verdict finished.setup.nodes (row_before finished.scenes.items)
      (length finished.scenes.items)
      (told_from trace.setup is.before is.shown) ++ text
  pub below : Ends picture text

-- a picture as SVG: a document with its head, and the title if no page stands around it, the numbers of all rows that
-- are shown, and what they say, a name or a number of each node, a bar of how each node stands, an arrow of each call
-- in a slot, and this text below
pub record IsSvgOf (claims : Claims) (around : Around) (finished : FinishedFilm) (names : List (List ℕ))
    (text picture : List ℕ) : Type 0 where
  pub document : IsDocument picture
  pub head : HasHead picture around finished.verdict
      (title_text finished.verdict finished.setup.nodes finished.setup.partitions (row_before finished.scenes.items)
      (length finished.scenes.items))
  pub rows : HasRows picture finished.verdict (scenes_shown claims finished.verdict finished.scenes.items)
  pub says : HasSaid picture finished.verdict (scenes_shown claims finished.verdict finished.scenes.items)
  pub nodes : HasNodes picture finished.setup.nodes (slice_get names)
  pub bars : (window : WindowState) (trace : Trace) (is : IsFilmOf window finished trace)
      → HasStands picture (shows_rows finished.scenes.items) finished.setup.nodes (row_before finished.scenes.items)
      (λ i. lane_of trace.setup is.before i is.shown)
  pub calls : (window : WindowState) (trace : Trace) (is : IsFilmOf window finished trace)
      → HasCalls picture finished.setup.nodes (row_before finished.scenes.items) (λ i.
      lane_of trace.setup is.before i is.shown)
  pub below : HasBelow picture text

-- a page: a document with its title and heading, this picture, this text below it, and exactly the rows that are shown,
-- with what they change; and nothing else
pub record IsPageOf (claims : Claims) (finished : FinishedFilm) (names : List (List ℕ))
    (text svg page : List ℕ) : Type 0 where
  pub document : IsPage page
  pub title : Has page (titled (title_text finished.verdict finished.setup.nodes finished.setup.partitions
      (row_before finished.scenes.items) (length finished.scenes.items)))
  pub heading : Has page (headed (title_text finished.verdict finished.setup.nodes finished.setup.partitions
      (row_before finished.scenes.items) (length finished.scenes.items)))
  pub picture : Has page svg
  pub below : HasLines page text
  pub rows : HasRowsOf page claims finished.verdict finished.setup.nodes names finished.scenes.items
  pub whole : page ≡ page_text
      (title_text finished.verdict finished.setup.nodes finished.setup.partitions (row_before finished.scenes.items)
      (length finished.scenes.items))
      svg text (rows_text claims finished.verdict finished.setup.nodes names finished.scenes.items)

-- a picture of what a film shows, above this text: as text, as SVG, or as a page around that, which has title and text
-- once. As text it has no names
abbrev pub IsPictureIn : Form → Claims → FinishedFilm → List (List ℕ) → List ℕ → List ℕ → Type 0
IsPictureIn Form.Text claims finished names below picture = IsTextOf finished below picture
IsPictureIn Form.Svg claims finished names below picture = IsSvgOf claims Around.Nothing finished names below picture
IsPictureIn Form.Page claims finished names below picture =
    (svg : List ℕ) × IsSvgOf claims Around.Page finished names [] svg × IsPageOf claims finished names below svg picture

-- the same above the row that decided
abbrev pub IsPictureOf : Drawing → FinishedFilm → List (List ℕ) → List ℕ → Type 0
IsPictureOf drawing finished names picture =
    (below : List ℕ) × IsBelow finished.stop below
    × IsPictureIn drawing.form drawing.claims finished names below picture

-- the input means a trace: what its film shows in the window stands on the output, in the form asked for and with these
-- names, and the verdict gives the status of `check`
abbrev pub IsDrawn : List ℕ → Drawing → List (List ℕ) → KnownBytes → KnownBytes → KnownBytes → KnownBytes → ℕ → Type 0
IsDrawn bytes drawing names output output' errors errors' status =
    (trace : Trace) × (finished : FinishedFilm) × (picture : List ℕ) × (trace_of (records_of bytes) ≡ Ok trace)
    × IsFilmOf drawing.window finished trace
    × IsPictureOf drawing finished names picture × Appends output output' picture × Keeps errors errors'
    × (status ≡ verdict_status finished.verdict)

-- a picture of the input, or what `check` answers where no trace is taken from it
abbrev pub IsPictureAnswer : List ℕ → Drawing → List (List ℕ) → KnownBytes → KnownBytes → KnownBytes → KnownBytes → ℕ
    → Type 0
IsPictureAnswer bytes drawing names output output' errors errors' status =
    IsDrawn bytes drawing names output output' errors errors' status
    ⊎ IsUntaken bytes output output' errors errors' status

-- the same with the names of the configuration that these bytes of a file are; or that is refused
abbrev pub IsPictureBy : List ℕ → List ℕ → Drawing → KnownBytes → KnownBytes → KnownBytes → KnownBytes → ℕ → Type 0
IsPictureBy bytes file drawing output output' errors errors' status =
    ((config : Configuration) × ReadsAs file (Ok config)
    × IsPictureAnswer bytes drawing (names_in (Some config)) output output' errors errors' status)
    ⊎ IsNotDone file output output' errors errors' status

-- by the configuration at a path, of some bytes; without names, where no path is given
abbrev pub IsNamedPicture : List ℕ → Option (List ℕ) → Drawing → KnownBytes → KnownBytes → KnownBytes → KnownBytes → ℕ
    → Type 0
IsNamedPicture bytes None drawing output output' errors errors' status =
    IsPictureAnswer bytes drawing (names_in None) output output' errors errors' status
IsNamedPicture bytes (Some path) drawing output output' errors errors' status =
    (file : List ℕ) × IsPictureBy bytes file drawing output output' errors errors' status

-- the form that is asked for; none where two are
abbrev pub form_asked : Bool → Bool → Option Form
form_asked true true = None
form_asked true false = Some Form.Text
form_asked false true = Some Form.Page
form_asked false false = Some Form.Svg

-- whether claims are left out
abbrev pub claims_asked : Bool → Claims
claims_asked without = if without then Claims.LeftOut else Claims.Shown

-- this window is drawn in this form, as words say
abbrev pub drawing_asked : Drawn → Form → WindowState → Drawing
drawing_asked words form window =
    record { window = window; form = form; claims = claims_asked (is_given words.without_claims) }

-- a bad word is told, or that there is no memory
abbrev pub IsWordRefused : List ℕ → KnownBytes → KnownBytes → KnownBytes → KnownBytes → ℕ → Type 0
IsWordRefused line output output' errors errors' status = IsBadWord line output output' errors errors' status
    ⊎ IsShort output output' errors errors' status

-- the answer to `draw` in this form
abbrev pub IsFormAnswer : List ℕ → Drawn → Form → KnownBytes → KnownBytes → KnownBytes → KnownBytes → ℕ → Type 0
IsFormAnswer bytes words form output output' errors errors' status =
    MatchOption (window_asked words.rows) (IsWordRefused rows_line output output' errors errors' status)
    (λ window. IsNamedPicture bytes words.names (drawing_asked words form window) output output' errors errors' status)

-- the answer to `draw` with these bytes on the input. Exactly two forms at once and the rows that can't be shown are
-- refused, before all else; then may be the configuration whose names are asked for
abbrev pub IsDrawAnswer : List ℕ → Drawn → KnownBytes → KnownBytes → KnownBytes → KnownBytes → ℕ → Type 0
IsDrawAnswer bytes words output output' errors errors' status =
    MatchOption (form_asked (is_given words.text) (is_given words.html))
    (IsWordRefused html_line output output' errors errors' status)
    (λ form. IsFormAnswer bytes words form output output' errors errors' status)
