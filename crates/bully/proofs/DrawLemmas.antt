-- From what a film and a picture of it ensure to what the program answers to `draw`.
use Rattle.std.proofs.Common.{◌≡◌, ◌⊎◌, ◌∙◌, inl, inr, ℕ, zero, suc, ◌<◌, ◌+◌, List, [], ◌∷◌, ◌++◌, Option, Some, None, Result, Ok, Err, get_or, map, take, refl, sym, ap, subst, arith}
use Rattle.std.specs.Prelude.{IfOk, IfSome, MatchOption, length, option_map, slice_get}
use Rattle.std.specs.Io.KnownBytes.{Appends}
use Rattle.std.proofs.lemmas.List.{map-append, take_more}
use Rattle.std.proofs.lemmas.Option.{slice_get-map}
use Rattle.bully_base.specs.Places.{at_node}
use Rattle.bully_rows.specs.Rows.{OfTrace}
use Rattle.bully_rows.specs.Trace.{Trace}
use Rattle.bully_trace.specs.VerdictText.{verdict_head}
use Rattle.bully_config.specs.Configuration.{Configuration}
use Rattle.bully_film.specs.declared.film.FinishedFilm.{FinishedFilm}
use Rattle.bully_film.specs.Film.{IsFilmOf}
use Rattle.bully_film.specs.Lane.{row_before}
use Rattle.bully_film.specs.Scene.{lane_of}
use Rattle.bully_film.specs.Window.{WindowState}
use Rattle.bully_picture.specs.Bars.{HasStands, shows_rows}
use Rattle.bully_picture.specs.Drawn.{HasBelow, HasCalls, HasNodes, HasRows, HasSaid, node_label, scenes_shown}
use Rattle.bully_picture.specs.Head.{HasHead}
use Rattle.bully_picture.specs.Title.{Begins, Ends, Has, IsDocument, title_text}
use Rattle.bully_picture.specs.Told.{columns_text, told_from}
use Rattle.bully_cli.specs.Words.{Drawn}
use Rattle.bully_page.specs.Page.{HasLines, HasRowsOf, IsPage, headed, page_text, rows_text, titled}
use Rattle.bully_picture.specs.declared.around.Around.{Around}
use Rattle.bully_picture.specs.declared.claims.Claims.{Claims}
use Rattle.bully.specs.declared.drawing.Drawing.{Drawing}
use Rattle.bully.specs.declared.drawing.Form.{Form}
use Rattle.bully.specs.Answer.{IsBadWord, IsShort, is_given, IsUntaken, KnownBytes, Tells, stop_line, verdict_status}
use Rattle.bully.specs.BadWords.{html_line, rows_line}
use Rattle.bully.specs.ConfigAnswer.{IsNotDone}
use Rattle.bully.specs.DrawAnswer.{IsBelow, IsDrawAnswer, IsFormAnswer, IsNamedPicture, IsPictureAnswer, IsPictureBy, IsPictureIn, IsPictureOf, IsSvgOf, IsTextOf, IsWordRefused, drawing_asked, form_asked, names_in, window_asked}
use Rattle.bully.specs.Wanted.{ReadsAs}
use Rattle.bully.specs.declared.telling.Stop.{Stop}
use Rattle.bully.proofs.KnownBytesLemmas.{keeps-same}

-- what a picture as text has
pub text-picture : {S E : Type 0} (bytes : S → List ℕ) (made : Result S E) (finished : FinishedFilm) (below : List ℕ)
    → IfOk made (λ p. Begins (bytes p) (verdict_head finished.verdict))
    → ((window : WindowState) (trace : Trace) (is : IsFilmOf window finished trace)
    → IfOk made (λ p. bytes p ≡ columns_text finished.verdict finished.setup.nodes (row_before finished.scenes.items) (length finished.scenes.items)
    (told_from trace.setup is.before is.shown) ++ below)) → IfOk made (λ p. Ends (bytes p) below)
    → IfOk made (λ p. IsTextOf finished below (bytes p))
text-picture bytes (Ok p) finished below verdict whole ends = record { verdict = verdict; whole = whole; below = ends }
text-picture bytes (Err e) finished below verdict whole ends = tt

-- the names of the nodes, as the picture has them
nodes-named : {A : Type 0} (of : A → List ℕ) (given : List A) (names : List (List ℕ)) (text : List ℕ) (nodes : ℕ) → map of given ≡ names
    → HasNodes text nodes (λ i. option_map of (slice_get given i)) → HasNodes text nodes (slice_get names)
nodes-named of given names text nodes are has =
    (has.0, λ i low. subst (λ o. Has text (node_label has.0 (i + 1) o)) (sym (slice_get-map of given i) ∙ ap (λ l. slice_get l i) are) (has.1 i low))

-- what a picture as SVG has
pub svg-picture : {A S E : Type 0} (of : A → List ℕ) (bytes : S → List ℕ) (made : Result S E) (claims : Claims) (around : Around) (finished : FinishedFilm) (given : List A) (below : List ℕ)
    → IfOk made (λ p. IsDocument (bytes p))
    → IfOk made (λ p. HasHead (bytes p) around finished.verdict
    (title_text finished.verdict finished.setup.nodes finished.setup.partitions (row_before finished.scenes.items) (length finished.scenes.items)))
    → IfOk made (λ p. HasRows (bytes p) finished.verdict (scenes_shown claims finished.verdict finished.scenes.items))
    → IfOk made (λ p. HasSaid (bytes p) finished.verdict (scenes_shown claims finished.verdict finished.scenes.items))
    → IfOk made (λ p. HasNodes (bytes p) finished.setup.nodes (λ i. option_map of (slice_get given i)))
    → ((window : WindowState) (trace : Trace) (is : IsFilmOf window finished trace)
    → IfOk made (λ p. HasStands (bytes p) (shows_rows finished.scenes.items) finished.setup.nodes (row_before finished.scenes.items) (λ i. lane_of trace.setup is.before i is.shown)))
    → ((window : WindowState) (trace : Trace) (is : IsFilmOf window finished trace)
    → IfOk made (λ p. HasCalls (bytes p) finished.setup.nodes (row_before finished.scenes.items) (λ i. lane_of trace.setup is.before i is.shown)))
    → IfOk made (λ p. HasBelow (bytes p) below) → IfOk made (λ p. IsSvgOf claims around finished (map of given) below (bytes p))
svg-picture of bytes (Ok p) claims around finished given below document head rows says nodes bars calls has_below = record {
  document = document;
  head = head;
  rows = rows;
  says = says;
  nodes = nodes-named of given (map of given) (bytes p) finished.setup.nodes refl nodes;
  bars = bars;
  calls = calls;
  below = has_below;
}
svg-picture of bytes (Err e) claims around finished given below document head rows says nodes bars calls has_below = tt

-- what a page around a picture has
pub page-picture : {S E : Type 0} (bytes : S → List ℕ) (made : Result S E) (claims : Claims) (finished : FinishedFilm) (names : List (List ℕ)) (below svg : List ℕ)
    → IsSvgOf claims Around.Page finished names [] svg → IfOk made (λ p. IsPage (bytes p))
    → IfOk made (λ p. Has (bytes p)
    (titled (title_text finished.verdict finished.setup.nodes finished.setup.partitions (row_before finished.scenes.items) (length finished.scenes.items))))
    → IfOk made (λ p. Has (bytes p)
    (headed (title_text finished.verdict finished.setup.nodes finished.setup.partitions (row_before finished.scenes.items) (length finished.scenes.items))))
    → IfOk made (λ p. Has (bytes p) svg) → IfOk made (λ p. HasLines (bytes p) below)
    → IfOk made (λ p. HasRowsOf (bytes p) claims finished.verdict finished.setup.nodes names finished.scenes.items)
    → IfOk made (λ p. bytes p ≡ page_text
    (title_text finished.verdict finished.setup.nodes finished.setup.partitions (row_before finished.scenes.items) (length finished.scenes.items))
    svg below (rows_text claims finished.verdict finished.setup.nodes names finished.scenes.items))
    → IfOk made (λ p. IsPictureIn Form.Page claims finished names below (bytes p))
page-picture bytes (Ok p) claims finished names below svg is document title heading picture lines rows whole =
    (svg, is, record { document = document; title = title; heading = heading; picture = picture; below = lines; rows = rows; whole = whole })
page-picture bytes (Err e) claims finished names below svg is document title heading picture lines rows whole = tt

-- a picture above the row that decided, with the names of the configuration
pub picture-above : {S E : Type 0} (bytes : S → List ℕ) (made : Result S E) (drawing : Drawing) (finished : FinishedFilm) (given names : List (List ℕ)) (below : List ℕ)
    → IsBelow finished.stop below → given ≡ names → IfOk made (λ p. IsPictureIn drawing.form drawing.claims finished given below (bytes p))
    → IfOk made (λ p. IsPictureOf drawing finished names (bytes p))
picture-above bytes (Ok p) drawing finished given names below known are is = (below, known, subst (λ l. IsPictureIn drawing.form drawing.claims finished l below (bytes p)) are is)
picture-above bytes (Err e) drawing finished given names below known are is = tt

-- a picture was written, or there was no memory for it
pub drawn-answer : {W E : Type 0} (bytes-of : W → KnownBytes) (contents : E → KnownBytes) (remaining : KnownBytes) (drawing : Drawing) (names : List (List ℕ)) (finished : FinishedFilm) (out out' : W) (errors errors' : E) (status : ℕ)
    → OfTrace remaining (IsFilmOf drawing.window finished)
    → (((picture : List ℕ) × IsPictureOf drawing finished names picture
    × (((status ≡ verdict_status finished.verdict) × Appends (bytes-of out) (bytes-of out') picture × (errors' ≡ errors)) ⊎ ((status ≡ 4) × Tells (contents errors) (contents errors') (stop_line Stop.Write))))
    ⊎ ((status ≡ 4) × (out' ≡ out) × Tells (contents errors) (contents errors') (stop_line Stop.OutOfMemory)))
    → IfSome remaining (λ bytes. IsPictureAnswer bytes drawing names (bytes-of out) (bytes-of out') (contents errors) (contents errors') status)
drawn-answer bytes-of contents None drawing names finished out out' errors errors' status told drawn = tt
drawn-answer bytes-of contents (Some bytes) drawing names finished out out' errors errors' status (trace, is, film) (inl (picture, shows, inl (done, appended, same))) =
    inl (trace, finished, picture, is, film, shows, appended, keeps-same _ _ (ap contents same), done)
drawn-answer bytes-of contents (Some bytes) drawing names finished out out' errors errors' status (trace, is, film) (inl (picture, shows, inr (stopped, told))) =
    inr (inr (Stop.Write, (λ other. absurd (other refl)), (λ _. rw is refl), told, stopped))
drawn-answer bytes-of contents (Some bytes) drawing names finished out out' errors errors' status (trace, is, film) (inr (stopped, same, told)) =
    inr (inr (Stop.OutOfMemory, (λ _. keeps-same _ _ (ap bytes-of same)), (λ e. absurd (grind (arith, e))), told, stopped))

-- where no trace is taken, none is drawn
pub none-drawn : (remaining : KnownBytes) (drawing : Drawing) (names : List (List ℕ)) (output output' errors errors' : KnownBytes) (status : ℕ)
    → IfSome remaining (λ bytes. IsUntaken bytes output output' errors errors' status)
    → IfSome remaining (λ bytes. IsPictureAnswer bytes drawing names output output' errors errors' status)
none-drawn None drawing names output output' errors errors' status untaken = tt
none-drawn (Some bytes) drawing names output output' errors errors' status untaken = inr untaken

-- the names are those of a configuration
pub drawn-by : (remaining : KnownBytes) (file : List ℕ) (config : Configuration) (drawing : Drawing) (output output' errors errors' : KnownBytes) (status : ℕ)
    → ReadsAs file (Ok config) → IfSome remaining (λ bytes. IsPictureAnswer bytes drawing (names_in (Some config)) output output' errors errors' status)
    → IfSome remaining (λ bytes. IsPictureBy bytes file drawing output output' errors errors' status)
drawn-by None file config drawing output output' errors errors' status reads drawn = tt
drawn-by (Some bytes) file config drawing output output' errors errors' status reads drawn = inl (config, reads, drawn)

-- which is refused
pub refused-by : (remaining : KnownBytes) (file : List ℕ) (drawing : Drawing) (output output' errors errors' : KnownBytes) (status : ℕ)
    → IsNotDone file output output' errors errors' status → IfSome remaining (λ bytes. IsPictureBy bytes file drawing output output' errors errors' status)
refused-by None file drawing output output' errors errors' status refused = tt
refused-by (Some bytes) file drawing output output' errors errors' status refused = inr refused

-- a path is given
pub drawn-named : (remaining : KnownBytes) (file : List ℕ) (names : Option (List ℕ)) (path : List ℕ) (drawing : Drawing) (output output' errors errors' : KnownBytes) (status : ℕ)
    → names ≡ Some path → IfSome remaining (λ bytes. IsPictureBy bytes file drawing output output' errors errors' status)
    → IfSome remaining (λ bytes. IsNamedPicture bytes names drawing output output' errors errors' status)
drawn-named None file names path drawing output output' errors errors' status is drawn = tt
drawn-named (Some bytes) file names path drawing output output' errors errors' status is drawn = rw is (file, drawn)

-- or none
pub drawn-unnamed : (remaining : KnownBytes) (names : Option (List ℕ)) (drawing : Drawing) (output output' errors errors' : KnownBytes) (status : ℕ)
    → names ≡ None → IfSome remaining (λ bytes. IsPictureAnswer bytes drawing (names_in None) output output' errors errors' status)
    → IfSome remaining (λ bytes. IsNamedPicture bytes names drawing output output' errors errors' status)
drawn-unnamed None names drawing output output' errors errors' status is drawn = tt
drawn-unnamed (Some bytes) names drawing output output' errors errors' status is drawn = rw is drawn

-- these rows are drawn, or the configuration with the names is refused
pub window-answer : (remaining : KnownBytes) (window : WindowState) (form : Form) (words : Drawn) (output output' errors errors' : KnownBytes) (status : ℕ) → window_asked words.rows ≡ Some window
    → IfSome remaining (λ bytes. IsNamedPicture bytes words.names (drawing_asked words form window) output output' errors errors' status)
    → IfSome remaining (λ bytes. IsFormAnswer bytes words form output output' errors errors' status)
window-answer None window form words output output' errors errors' status is answered = tt
window-answer (Some bytes) window form words output output' errors errors' status is answered = rw is answered

-- the rows are no window
pub no-window : (remaining : KnownBytes) (form : Form) (words : Drawn) (output output' errors errors' : KnownBytes) (status : ℕ) → window_asked words.rows ≡ None
    → IsBadWord rows_line output output' errors errors' status
    → IfSome remaining (λ bytes. IsFormAnswer bytes words form output output' errors errors' status)
no-window None form words output output' errors errors' status is told = tt
no-window (Some bytes) form words output output' errors errors' status is told = rw is (inl told)

-- the form is asked for
pub form-answer : (remaining : KnownBytes) (form : Form) (words : Drawn) (output output' errors errors' : KnownBytes) (status : ℕ)
    → form_asked (is_given words.text) (is_given words.html) ≡ Some form
    → IfSome remaining (λ bytes. IsFormAnswer bytes words form output output' errors errors' status)
    → IfSome remaining (λ bytes. IsDrawAnswer bytes words output output' errors errors' status)
form-answer None form words output output' errors errors' status is answered = tt
form-answer (Some bytes) form words output output' errors errors' status is answered = rw is answered

-- two are
pub two-forms : (remaining : KnownBytes) (words : Drawn) (output output' errors errors' : KnownBytes) (status : ℕ)
    → form_asked (is_given words.text) (is_given words.html) ≡ None → IsBadWord html_line output output' errors errors' status
    → IfSome remaining (λ bytes. IsDrawAnswer bytes words output output' errors errors' status)
two-forms None words output output' errors errors' status is told = tt
two-forms (Some bytes) words output output' errors errors' status is told = rw is (inl told)

-- there is no memory for the words
pub short-answer : (remaining : KnownBytes) (words : Drawn) (output output' errors errors' : KnownBytes) (status : ℕ) → IsShort output output' errors errors' status
    → IfSome remaining (λ bytes. IsDrawAnswer bytes words output output' errors errors' status)
short-answer None words output output' errors errors' status short = tt
short-answer (Some bytes) words output output' errors errors' status (keeps, told, stopped) = by_form (form_asked (is_given words.text) (is_given words.html))
  where
    by_names : (drawing : Drawing) (names : Option (List ℕ)) → IsNamedPicture bytes names drawing output output' errors errors' status
    by_names drawing None = inr (inr (Stop.OutOfMemory, (λ _. keeps), (λ e. absurd (grind (arith, e))), told, stopped))
    by_names drawing (Some path) = ([], inr (inr (Stop.OutOfMemory, (λ _. keeps), told, stopped)))

    by_window : (form : Form) (window : Option WindowState) → MatchOption window (IsWordRefused rows_line output output' errors errors' status)
        (λ window. IsNamedPicture bytes words.names (drawing_asked words form window) output output' errors errors' status)
    by_window form None = inr (keeps, told, stopped)
    by_window form (Some window) = by_names (drawing_asked words form window) words.names

    by_form : (form : Option Form) → MatchOption form (IsWordRefused html_line output output' errors errors' status)
        (λ form. IsFormAnswer bytes words form output output' errors errors' status)
    by_form None = inr (keeps, told, stopped)
    by_form (Some form) = by_window form (window_asked words.rows)

-- one more name of a configuration
named-at : (names : List (List ℕ)) (k i : ℕ) → i ≡ k + 1 → at_node [] names i ≡ get_or names k []
named-at names k zero at = absurd (omega (arith, at))
named-at names k (suc j) at = let same : j ≡ k = omega (arith, at) in ap (λ n. get_or names n []) same

pub one-named : {A : Type 0} (of : A → List ℕ) (names : List (List ℕ)) (items new : List A) (x : A) (k i : ℕ) → k < length names → i ≡ k + 1 → of x ≡ at_node [] names i
    → new ≡ items ++ x ∷ [] → map of items ≡ take k names → map of new ≡ take (k + 1) names
one-named of names items new x k i within at named pushed so_far =
    ap (map of) pushed ∙ map-append of items (x ∷ []) ∙ ap (λ l. l ++ of x ∷ []) so_far ∙ ap (λ y. take k names ++ y ∷ []) (named ∙ named-at names k i at)
    ∙ sym (take_more names k [] within)
