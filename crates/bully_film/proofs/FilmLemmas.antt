-- One more row is filmed.
use Rattle.std.proofs.Common.{zero, suc, ◌≡◌, ◌≢◌, ◌⊎◌, inl, inr, ◌∙◌, ℕ, ◌+◌, ◌-◌, ◌==◌, ◌<◌, ◌≤◌, ◌++◌, Bool, true, false, List, [], ◌∷◌, Option, Some, None, if◌then◌else◌, length, drop, refl, sym, ap, subst, arith}
use Rattle.std.specs.declared.alloc.AllocError.{AllocError}
use Rattle.std.specs.Prelude.{is_none, is_some, min, nat_lt, nat_le, slice_get, OnOk, Result, Ok, Err}
use Rattle.std.proofs.lemmas.Bool.Decides.{nat_tests}
use Rattle.std.proofs.lemmas.List.{append_assoc, append-nil, length-append}
use Rattle.bully_base.specs.Setup.{Setup}
use Rattle.bully_calls.specs.declared.kind.NodeEventKind.{NodeEventKind}
use Rattle.bully_rows.specs.declared.trace.Row.{Row}
use Rattle.bully_calls.specs.Events.{event_at}
use Rattle.bully_calls.proofs.KindLemmas.{kind-kind, kind-node}
use Rattle.bully_trace.specs.declared.verdict.Verdict.{Verdict}
use Rattle.bully_trace.specs.Judging.{HasJudged, JudgeState}
use Rattle.bully_trace.specs.Verdict.{IsJudged}
use Rattle.bully_world.specs.State.{world_of}
use Rattle.bully_world.specs.World.{first_world}
use Rattle.bully_film.specs.declared.scene.SceneStart.{SceneStart}
use Rattle.bully_film.specs.declared.scene.Scene.{Scene}
use Rattle.bully_film.specs.declared.snapshot.NodeSnapshot.{NodeSnapshot}
use Rattle.bully_film.specs.Behind.{world_behind}
use Rattle.bully_film.specs.Film.{FilmState, GoesOn, HasFilmed, HasShot, IsAtEnd, IsInWindow, IsLook, IsNoted, IsRowAt, closed, decided, kept, last_judged}
use Rattle.bully_film.specs.Scene.{event_kind_in, is_node_kind, node_in, said_in, scene_at, scene_of, scenes_from, snapshots_of}
use Rattle.bully_film.specs.Window.{IsWindow, WindowState}
use Rattle.bully_film.proofs.BehindLemmas.{judged-world}

-- ---- lists of scenes

scenes-more : (setup : Setup) (before shown : List Row) (row : Row)
    → scenes_from setup before (shown ++ row ∷ []) ≡ scenes_from setup before shown ++ scene_at setup (before ++ shown) row ∷ []
scenes-more setup before [] row = ap (λ all. scene_at setup all row ∷ []) (sym (append-nil before))
scenes-more setup before (first ∷ shown) row =
    ap (λ l. scene_at setup before first ∷ l)
    (scenes-more setup (before ++ first ∷ []) shown row
    ∙ ap (λ all. scenes_from setup (before ++ first ∷ []) shown ++ scene_at setup all row ∷ []) (append_assoc before (first ∷ []) shown))

length-scenes_from : (setup : Setup) (before shown : List Row) → length (scenes_from setup before shown) ≡ length shown
length-scenes_from setup before [] = refl
length-scenes_from setup before (first ∷ shown) = ap suc (length-scenes_from setup (before ++ first ∷ []) shown)

-- ---- the window goes on by a row

-- which rows are kept behind one more row
record Keeps (setup : Setup) (window : WindowState) (before shown : List Row) (row : Row) (scenes : List Scene) : Type 0 where
  before' : List Row
  shown' : List Row
  all : before' ++ shown' ≡ (before ++ shown) ++ row ∷ []
  scenes_are : scenes ≡ scenes_from setup before' shown'
  in_window : IsInWindow window before' shown'

-- a row before the window
keeps-none : (setup : Setup) (window : WindowState) (before shown : List Row) (row : Row) → IsWindow window → IsInWindow window before shown
    → length before + length shown + 2 < window.from → Keeps setup window before shown row (scenes_from setup before shown)
keeps-none setup window before [] row fits at early = record {
  before' = before ++ row ∷ [];
  shown' = [];
  all = append-nil (before ++ row ∷ []) ∙ ap (λ all. all ++ row ∷ []) (sym (append-nil before));
  scenes_are = refl;
  in_window = by_end (grind (arith, length-append before (row ∷ []), early));
}
  where
    by_end : (length (before ++ row ∷ []) + 2 ≡ window.from) ⊎ (length (before ++ row ∷ []) + 2 < window.from) → IsInWindow window (before ++ row ∷ []) []
    by_end (inl is) = inl (is, omega (arith, fits.some))
    by_end (inr is) = inr (inl (is, refl))
keeps-none setup window before (first ∷ shown) row fits (inl (is, few)) early = absurd (omega (arith, is, early))
keeps-none setup window before (first ∷ shown) row fits (inr (inl (is, none))) early = absurd (cc none)
keeps-none setup window before (first ∷ shown) row fits (inr (inr (is, full))) early = absurd (omega (arith, is, early))

-- a row for which there is room
keeps-more : (setup : Setup) (window : WindowState) (before shown : List Row) (row : Row) → IsWindow window → IsInWindow window before shown
    → window.from ≤ length before + length shown + 2 → length shown < window.most
    → Keeps setup window before shown row (scenes_from setup before shown ++ scene_at setup (before ++ shown) row ∷ [])
keeps-more setup window before shown row fits at late room = record {
  before' = before;
  shown' = shown ++ row ∷ [];
  all = sym (append_assoc before shown (row ∷ []));
  scenes_are = sym (scenes-more setup before shown row);
  in_window = by_end at;
}
  where
    by_end : IsInWindow window before shown → IsInWindow window before (shown ++ row ∷ [])
    by_end (inl (is, few)) = inl (is, omega (arith, length-append shown (row ∷ []), room))
    by_end (inr (inl (is, none))) = absurd (omega (arith, is, late, ap length none))
    by_end (inr (inr (is, full))) = absurd (omega (arith, full, room))

-- a row in the place of the oldest one
keeps-last : (setup : Setup) (window : WindowState) (before shown : List Row) (row : Row) → IsWindow window → IsInWindow window before shown
    → window.most ≤ length shown
    → Keeps setup window before shown row (drop 1 (scenes_from setup before shown) ++ scene_at setup (before ++ shown) row ∷ [])
keeps-last setup window before [] row fits at full = absurd (omega (arith, full, fits.some))
keeps-last setup window before (first ∷ shown) row fits at full = record {
  before' = before ++ first ∷ [];
  shown' = shown ++ row ∷ [];
  all = append_assoc before (first ∷ []) (shown ++ row ∷ []) ∙ sym (append_assoc before (first ∷ shown) (row ∷ []));
  scenes_are = sym (scenes-more setup (before ++ first ∷ []) shown row
      ∙ ap (λ all. scenes_from setup (before ++ first ∷ []) shown ++ scene_at setup all row ∷ []) (append_assoc before (first ∷ []) shown));
  in_window = by_end at;
}
  where
    size : length (before ++ first ∷ []) ≡ length before + 1
    size = length-append before (first ∷ [])

    count : length (shown ++ row ∷ []) ≡ length shown + 1
    count = length-append shown (row ∷ [])

    by_end : IsInWindow window before (first ∷ shown) → IsInWindow window (before ++ first ∷ []) (shown ++ row ∷ [])
    by_end (inl (is, few)) = inr (inr (omega (arith, size, is), omega (arith, count, few, full)))
    by_end (inr (inl (is, none))) = absurd (cc none)
    by_end (inr (inr (is, few))) = inr (inr (omega (arith, size, is), omega (arith, count, few)))

keeps : (setup : Setup) (window : WindowState) (before shown : List Row) (row : Row) → IsWindow window → IsInWindow window before shown
    → Keeps setup window before shown row (kept window (scenes_from setup before shown) (scene_at setup (before ++ shown) row))
keeps setup window before shown row fits at =
    by_number (nat_lt (length (before ++ shown) + 2) window.from) (nat_le window.most (length (scenes_from setup before shown))) refl refl
  where
    scenes : List Scene
    scenes = scenes_from setup before shown

    size : length (before ++ shown) ≡ length before + length shown
    size = length-append before shown

    by_number : (early full : Bool) → nat_lt (length (before ++ shown) + 2) window.from ≡ early → nat_le window.most (length (scenes_from setup before shown)) ≡ full
        → Keeps setup window before shown row (if early then scenes_from setup before shown
        else (if full then drop 1 (scenes_from setup before shown) else scenes_from setup before shown) ++ scene_at setup (before ++ shown) row ∷ [])
    by_number true full early is = keeps-none setup window before shown row fits at (let e : length (before ++ shown) + 2 < window.from = grind (arith, nat_tests, early) in omega (arith, size, e))
    by_number false true late full =
        let e : window.most ≤ length (scenes_from setup before shown) = grind (arith, nat_tests, full) in
        keeps-last setup window before shown row fits at (omega (arith, e, length-scenes_from setup before shown))
    by_number false false late room =
        let e : window.from ≤ length (before ++ shown) + 2 = grind (arith, nat_tests, late) in
        let f : length (scenes_from setup before shown) < window.most = grind (arith, nat_tests, room) in
        keeps-more setup window before shown row fits at (omega (arith, e, size)) (omega (arith, f, length-scenes_from setup before shown))

-- ---- the row that decided

get-more : {A : Type 0} (xs more : List A) (k : ℕ) (x : A) → slice_get xs k ≡ Some x → slice_get (xs ++ more) k ≡ Some x
get-more [] more k x is = absurd (cc is)
get-more (first ∷ xs) more zero x is = is
get-more (first ∷ xs) more (suc k) x is = get-more xs more k x is

get-last : {A : Type 0} (xs : List A) (x : A) → slice_get (xs ++ x ∷ []) (length xs) ≡ Some x
get-last [] x = refl
get-last (first ∷ xs) x = get-last xs x

-- it is still there behind one more row
row-stays : (rows : List Row) (row : Row) (number : Option ℕ) (stop : Option Row) → IsRowAt rows number stop → IsRowAt (rows ++ row ∷ []) number stop
row-stays rows row None stop is = is
row-stays rows row (Some number) stop (r, is, there) = (r, is, get-more rows (row ∷ []) (number - 2) r there)

-- one more row was judged: whether it decided, which row did, and how far the rows go up to that
noted-unlawful : (number : ℕ) (row : Row) (film after : FilmState) → IsNoted number row film after → decided after.judge.stopped ≡ None → after.judge.stopped ≡ None
noted-unlawful number row film after (inl (is, kept)) none = absurd (cc (sym is ∙ none))
noted-unlawful number row film after (inr (going, same)) none = going

noted-stop : (rows : List Row) (row : Row) (number : ℕ) (film after : FilmState) → length rows + 2 ≡ number → film.judge.stopped ≡ None
    → IsRowAt rows (decided film.judge.stopped) film.stop → IsNoted number row film after → IsRowAt (rows ++ row ∷ []) (decided after.judge.stopped) after.stop
noted-stop rows row number film after at going stop (inl (is, kept)) =
    let place : length rows ≡ number - 2 = omega (arith, at) in
    let there : slice_get (rows ++ row ∷ []) (number - 2) ≡ Some row = subst (λ (k : ℕ). slice_get (rows ++ row ∷ []) k ≡ Some row) place (get-last rows row) in
    subst (λ n. IsRowAt (rows ++ row ∷ []) n after.stop) (sym is) (row, kept, there)
noted-stop rows row number film after at going stop (inr (on, same)) =
    let none : film.stop ≡ None = subst (λ stopped. IsRowAt rows (decided stopped) film.stop) going stop in
    subst (λ stopped. IsRowAt (rows ++ row ∷ []) (decided stopped) after.stop) (sym on) (same ∙ none)

noted-last : (rows : List Row) (row : Row) (number : ℕ) (film after : FilmState) → length rows + 2 ≡ number → IsNoted number row film after
    → last_judged (rows ++ row ∷ []) (decided after.judge.stopped) ≡ number
noted-last rows row number film after at (inl (is, kept)) = ap (last_judged (rows ++ row ∷ [])) is
noted-last rows row number film after at (inr (on, same)) =
    let last : length (rows ++ row ∷ []) + 1 ≡ number = omega (arith, length-append rows (row ∷ []), at) in
    ap (λ stopped. last_judged (rows ++ row ∷ []) (decided stopped)) on ∙ last

-- ---- one more row

-- the judge doesn't look at rows behind the one that decided
stopped-on : (setup : Setup) (rows : List Row) (row : Row) (judge : JudgeState) (verdict : Verdict) → judge.stopped ≡ Some verdict
    → HasJudged setup rows judge → HasJudged setup (rows ++ row ∷ []) judge
stopped-on setup rows row judge verdict is judged = record {
  same = judged.same;
  judged = λ more told w on.
      subst (λ all. IsJudged setup (first_world setup) 0 2 all told w) (sym (append_assoc rows (row ∷ []) more))
      (judged.judged (row ∷ more) told w (rw is (rw is at on)));
}

-- behind the row that decided
pub filmed-stopped : (setup : Setup) (rows : List Row) (row : Row) (film : FilmState) (verdict : Verdict) → film.judge.stopped ≡ Some verdict
    → HasFilmed setup rows film → HasFilmed setup (rows ++ row ∷ []) film
filmed-stopped setup rows row film verdict is filmed = record {
  before = filmed.before;
  shown = filmed.shown;
  beyond = filmed.beyond ++ row ∷ [];
  all = ap (λ all. all ++ row ∷ []) filmed.all ∙ append_assoc (filmed.before ++ filmed.shown) filmed.beyond (row ∷ []);
  fits = filmed.fits;
  judged = stopped-on setup rows row film.judge verdict is filmed.judged;
  scenes = filmed.scenes;
  window = filmed.window;
  unlawful = filmed.unlawful;
  stop = row-stays rows row (decided film.judge.stopped) film.stop filmed.stop;
  ends = filmed.ends ∙ ap (min film.window.to) (by_number (decided film.judge.stopped) refl);
  at_end = by_at_end film.at_end filmed.at_end;
}
  where
    by_number : (number : Option ℕ) → decided film.judge.stopped ≡ number → last_judged rows number ≡ last_judged (rows ++ row ∷ []) number
    by_number None none = absurd (cc (sym is ∙ filmed.unlawful none))
    by_number (Some number) at = refl

    by_at_end : (at_end : Option (List NodeSnapshot))
        → IsAtEnd setup filmed.before filmed.shown filmed.beyond film.judge film.window.to (λ last. last < film.window.to) at_end
        → IsAtEnd setup filmed.before filmed.shown (filmed.beyond ++ row ∷ []) film.judge film.window.to (λ last. last < film.window.to) at_end
    by_at_end None (judged, going, upto) = (judged, λ none. absurd (cc (sym is ∙ none)), upto)
    by_at_end (Some s) at = at

-- behind the window
pub filmed-beyond : (setup : Setup) (rows : List Row) (row : Row) (number : ℕ) (film after : FilmState) → film.judge.stopped ≡ None → is_none film.at_end ≡ false
    → after.at_end ≡ film.at_end → after.scenes ≡ film.scenes → after.window ≡ film.window → length rows + 2 ≡ number → IsNoted number row film after
    → HasJudged setup (rows ++ row ∷ []) after.judge
    → HasFilmed setup rows film → HasFilmed setup (rows ++ row ∷ []) after
filmed-beyond setup rows row number film after going is same_at_end same_scenes same_window at taken judged filmed = record {
  before = filmed.before;
  shown = filmed.shown;
  beyond = filmed.beyond ++ row ∷ [];
  all = ap (λ all. all ++ row ∷ []) filmed.all ∙ append_assoc (filmed.before ++ filmed.shown) filmed.beyond (row ∷ []);
  fits = rw same_window filmed.fits;
  judged = judged;
  scenes = same_scenes ∙ filmed.scenes;
  window = rw same_window filmed.window;
  unlawful = noted-unlawful number row film after taken;
  stop = noted-stop rows row number film after at going filmed.stop taken;
  ends = subst (λ (w : WindowState). length filmed.before + length filmed.shown + 1 ≡ min w.to (last_judged (rows ++ row ∷ []) (decided after.judge.stopped))) (sym same_window)
      (upto ∙ ap (min film.window.to) (sym (noted-last rows row number film after at taken)));
  at_end = rw (same_at_end, same_window) (by_at_end film.at_end is filmed.at_end);
}
  where
    before : length filmed.before + length filmed.shown + 1 ≡ min film.window.to (length rows + 1)
    before = filmed.ends ∙ ap (λ stopped. min film.window.to (last_judged rows (decided stopped))) going

    last : (at_end : Option (List NodeSnapshot)) → is_none at_end ≡ false
        → IsAtEnd setup filmed.before filmed.shown filmed.beyond film.judge film.window.to (λ last. last < film.window.to) at_end
        → length filmed.before + length filmed.shown + 1 ≡ film.window.to
    last None none at = absurd (cc none)
    last (Some s) some at = at.0

    upto : length filmed.before + length filmed.shown + 1 ≡ min film.window.to number
    upto = omega (arith, last film.at_end is filmed.at_end, before, at)

    by_at_end : (at_end : Option (List NodeSnapshot)) → is_none at_end ≡ false
        → IsAtEnd setup filmed.before filmed.shown filmed.beyond film.judge film.window.to (λ last. last < film.window.to) at_end
        → IsAtEnd setup filmed.before filmed.shown (filmed.beyond ++ row ∷ []) after.judge film.window.to (λ last. last < film.window.to) at_end
    by_at_end None none at = absurd (cc none)
    by_at_end (Some s) some at = at

-- within the window
pub filmed-shot : (setup : Setup) (rows : List Row) (row : Row) (number : ℕ) (film after : FilmState) → film.judge.stopped ≡ None → film.at_end ≡ None
    → after.at_end ≡ film.at_end → after.window ≡ film.window → length rows + 2 ≡ number → IsNoted number row film after
    → HasJudged setup (rows ++ row ∷ []) after.judge
    → after.scenes ≡ kept film.window film.scenes (scene_of after.judge.world.setup (world_of film.judge.world) (world_of after.judge.world) number row)
    → HasFilmed setup rows film → HasShot setup (rows ++ row ∷ []) after
filmed-shot setup rows row number film after going unclosed same_at_end same_window at taken judged shot filmed = record {
  before = next.before';
  shown = next.shown';
  beyond = [];
  all = ap (λ all. all ++ row ∷ []) whole ∙ sym next.all ∙ sym (append-nil (next.before' ++ next.shown'));
  fits = rw same_window filmed.fits;
  judged = judged;
  scenes = shot ∙ ap (λ s. kept film.window film.scenes s) seen ∙ ap (λ l. kept film.window l (scene_at setup (filmed.before ++ filmed.shown) row)) filmed.scenes ∙ next.scenes_are;
  window = rw same_window next.in_window;
  unlawful = noted-unlawful number row film after taken;
  stop = noted-stop rows row number film after at going filmed.stop taken;
  ends = subst (λ (w : WindowState). length next.before' + length next.shown' + 1 ≡ min w.to (last_judged (rows ++ row ∷ []) (decided after.judge.stopped))) (sym same_window)
      (here ∙ ap (min film.window.to) (sym (noted-last rows row number film after at taken)));
  at_end = rw (same_at_end, unclosed, same_window) (subst (λ all. HasJudged setup all after.judge) rows_are judged, λ _. refl, upto);
}
  where
    state : HasJudged setup (filmed.before ++ filmed.shown) film.judge × (film.judge.stopped ≡ None → filmed.beyond ≡ []) × (length filmed.before + length filmed.shown + 1 < film.window.to)
    state = rw unclosed at filmed.at_end

    whole : rows ≡ filmed.before ++ filmed.shown
    whole = filmed.all ∙ ap (λ beyond. (filmed.before ++ filmed.shown) ++ beyond) (state.1 going) ∙ append-nil (filmed.before ++ filmed.shown)

    next : Keeps setup film.window filmed.before filmed.shown row (kept film.window (scenes_from setup filmed.before filmed.shown) (scene_at setup (filmed.before ++ filmed.shown) row))
    next = keeps setup film.window filmed.before filmed.shown row filmed.fits filmed.window

    rows_are : rows ++ row ∷ [] ≡ next.before' ++ next.shown'
    rows_are = ap (λ all. all ++ row ∷ []) whole ∙ sym next.all

    numbered : number ≡ length (filmed.before ++ filmed.shown) + 2
    numbered = sym at ∙ ap (λ all. length all + 2) whole

    seen : scene_of after.judge.world.setup (world_of film.judge.world) (world_of after.judge.world) number row ≡ scene_at setup (filmed.before ++ filmed.shown) row
    seen =
        ap (λ s. scene_of s (world_of film.judge.world) (world_of after.judge.world) number row) judged.same
        ∙ ap (λ w. scene_of setup w (world_of after.judge.world) number row) (judged-world setup (filmed.before ++ filmed.shown) film.judge state.0)
        ∙ ap (λ w. scene_of setup (world_behind setup (filmed.before ++ filmed.shown)) w number row)
        (judged-world setup (rows ++ row ∷ []) after.judge judged ∙ ap (λ all. world_behind setup (all ++ row ∷ [])) whole)
        ∙ ap (λ n. scene_of setup (world_behind setup (filmed.before ++ filmed.shown)) (world_behind setup ((filmed.before ++ filmed.shown) ++ row ∷ [])) n row) numbered

    upto : (length next.before' + length next.shown' + 1 ≡ length (rows ++ row ∷ []) + 1) × (length next.before' + length next.shown' + 1 ≤ film.window.to)
    upto = (
      omega (arith, length-append next.before' next.shown', ap length rows_are),
      omega (arith, length-append next.before' next.shown', ap length next.all, length-append (filmed.before ++ filmed.shown) (row ∷ []), length-append filmed.before filmed.shown, state.2),
    )

    here : length next.before' + length next.shown' + 1 ≡ min film.window.to number
    here = omega (arith, upto.0, upto.1, at, length-append rows (row ∷ []))

-- and then how the nodes stand is kept, where this was the window's last row
filmed-closed : (setup : Setup) (rows : List Row) (number : ℕ) (film after : FilmState) → film.at_end ≡ None → length rows + 1 ≡ number
    → after ≡ (if number == film.window.to then closed film else film) → HasShot setup rows film → HasFilmed setup rows after
filmed-closed setup rows number film after unclosed at is shot = rw is (by_test (number == film.window.to) refl)
  where
    state : HasJudged setup (shot.before ++ shot.shown) film.judge × (film.judge.stopped ≡ None → shot.beyond ≡ [])
        × ((length shot.before + length shot.shown + 1 ≡ length rows + 1) × (length shot.before + length shot.shown + 1 ≤ film.window.to))
    state = rw unclosed at shot.at_end

    nodes : snapshots_of (world_of film.judge.world) 1 film.judge.world.setup.nodes ≡ snapshots_of (world_behind setup (shot.before ++ shot.shown)) 1 setup.nodes
    nodes =
        ap (λ (s : Setup). snapshots_of (world_of film.judge.world) 1 s.nodes) state.0.same
        ∙ ap (λ w. snapshots_of w 1 setup.nodes) (judged-world setup (shot.before ++ shot.shown) film.judge state.0)

    ended : (at_end : Option (List NodeSnapshot)) → IsAtEnd setup shot.before shot.shown shot.beyond film.judge film.window.to (λ last. last < film.window.to) at_end
        → HasFilmed setup rows (record film { at_end = at_end })
    ended at_end ends = record {
      before = shot.before;
      shown = shot.shown;
      beyond = shot.beyond;
      all = shot.all;
      fits = shot.fits;
      judged = shot.judged;
      scenes = shot.scenes;
      window = shot.window;
      unlawful = shot.unlawful;
      stop = shot.stop;
      ends = shot.ends;
      at_end = ends;
    }

    by_test : (b : Bool) → (number == film.window.to) ≡ b → HasFilmed setup rows (if b then closed film else film)
    by_test true last =
        let to : number ≡ film.window.to = grind (arith, nat_tests, last) in
        ended (closed film).at_end (rw unclosed (omega (arith, to, at, state.2.0), nodes))
    by_test false inner =
        let other : number ≢ film.window.to = λ e. grind (arith, nat_tests, inner, e) in
        ended film.at_end (rw unclosed (state.0, state.1, grind (arith, other, at, state.2.0, state.2.1)))

-- before any row: how the nodes stand is kept where the header is the window's last row
pub filmed-first : (setup : Setup) (film after : FilmState) → IsWindow film.window → HasJudged setup [] film.judge → film.judge.stopped ≡ None
    → film.scenes ≡ [] → film.stop ≡ None → film.at_end ≡ None → after ≡ (if 1 == film.window.to then closed film else film) → HasFilmed setup [] after
filmed-first setup film after fits judged going scenes stop unclosed is = filmed-closed setup [] 1 film after unclosed refl is (record {
  before = [];
  shown = [];
  beyond = [];
  all = refl;
  fits = fits;
  judged = judged;
  scenes = scenes;
  window = by_from (grind (arith, fits.header));
  unlawful = λ _. going;
  stop = subst (λ stopped. IsRowAt [] (decided stopped) film.stop) (sym going) stop;
  ends = one ∙ sym (ap (λ stopped. min film.window.to (last_judged [] (decided stopped))) going);
  at_end = rw unclosed (judged, λ _. refl, (refl, behind));
})
  where
    behind : 1 ≤ film.window.to
    behind = omega (arith, fits.header, fits.last)

    one : 1 ≡ min film.window.to 1
    one = omega (arith, behind)

    by_from : (2 ≡ film.window.from) ⊎ (2 < film.window.from) → IsInWindow film.window [] []
    by_from (inl at) = inl (at, omega (arith, fits.some))
    by_from (inr below) = inr (inl (below, refl))

-- both
pub shown-filmed : (setup : Setup) (rows : List Row) (row : Row) (number : ℕ) (film shot after : FilmState) (done : Result (Unit {0}) AllocError) → film.judge.stopped ≡ None → is_none film.at_end ≡ true
    → shot.at_end ≡ film.at_end → shot.window ≡ film.window → length rows + 2 ≡ number → IsNoted number row film shot
    → ((setup : Setup) (rows : List Row) → length rows + 2 ≡ number → HasJudged setup rows film.judge → HasJudged setup (rows ++ row ∷ []) shot.judge)
    → shot.scenes ≡ kept film.window film.scenes (scene_of shot.judge.world.setup (world_of film.judge.world) (world_of shot.judge.world) number row)
    → OnOk done (after ≡ (if number == shot.window.to then closed shot else shot))
    → HasFilmed setup rows film → OnOk done (HasFilmed setup (rows ++ row ∷ []) after)
shown-filmed setup rows row number film shot after (Err e) going unclosed same_at_end same_window at taken judges scenes is filmed = tt
shown-filmed setup rows row number film shot after (Ok x) going unclosed same_at_end same_window at taken judges scenes is filmed =
    let none : film.at_end ≡ None = none-is film.at_end unclosed in
    let one_more : length (rows ++ row ∷ []) + 1 ≡ number = omega (arith, at, length-append rows (row ∷ [])) in
    filmed-closed setup (rows ++ row ∷ []) number shot after (same_at_end ∙ none) one_more is
    (filmed-shot setup rows row number film shot going none same_at_end same_window at taken (judges setup rows at filmed.judged) scenes filmed)
  where
    none-is : (at_end : Option (List NodeSnapshot)) → is_none at_end ≡ true → at_end ≡ None
    none-is None e = refl
    none-is (Some s) e = absurd (cc e)

-- ---- a row, of which something was seen before it was judged

pub going-is : {T : Type 0} (x : Option T) → is_some x ≡ false → x ≡ None
going-is None is = refl
going-is (Some t) is = absurd (cc is)

-- behind the row that decided
pub filmed-over : (setup : Setup) (rows : List Row) (row : Row) (film : FilmState) → is_some film.judge.stopped ≡ true
    → HasFilmed setup rows film → HasFilmed setup (rows ++ row ∷ []) film
filmed-over setup rows row film over filmed = by_stop film.judge.stopped refl over
  where
    by_stop : (stopped : Option Verdict) → film.judge.stopped ≡ stopped → is_some stopped ≡ true → HasFilmed setup (rows ++ row ∷ []) film
    by_stop None is none = absurd (cc none)
    by_stop (Some verdict) is some = filmed-stopped setup rows row film verdict is filmed

-- in the window and behind it
pub filmed-on : (setup : Setup) (rows : List Row) (row : Row) (number : ℕ) (film judged after : FilmState) (said : Option Row) (scene_start : Option SceneStart) (done : Result (Unit {0}) AllocError)
    → said ≡ said_in row → is_some film.judge.stopped ≡ false → IsLook film (node_in row) (event_kind_in row) scene_start
    → judged.window ≡ film.window → judged.at_end ≡ film.at_end → judged.scenes ≡ film.scenes → IsNoted number row film judged
    → ((setup : Setup) (rows : List Row) → length rows + 2 ≡ number → HasJudged setup rows film.judge → HasJudged setup (rows ++ row ∷ []) judged.judge)
    → OnOk done (GoesOn number said scene_start judged after) → length rows + 2 ≡ number
    → HasFilmed setup rows film → OnOk done (HasFilmed setup (rows ++ row ∷ []) after)
filmed-on setup rows row number film judged after said scene_start (Err e) says going look same_window same_at_end same_scenes taken judges on at filmed = tt
filmed-on setup rows row number film judged after said None (Ok x) says going look same_window same_at_end same_scenes taken judges on at filmed =
    rw on (filmed-beyond setup rows row number film judged (going-is film.judge.stopped going) look same_at_end same_scenes same_window at taken (judges setup rows at filmed.judged) filmed)
filmed-on setup rows row number film judged after said (Some scene_start) (Ok x) says going look same_window same_at_end same_scenes taken judges on at filmed =
    let (shot, is, closes) = on (world_of film.judge.world) row says look.1 in
    let s = scene_of judged.judge.world.setup (world_of film.judge.world) (world_of judged.judge.world) number row in
    let keeps : shot.scenes ≡ kept film.window film.scenes (scene_of shot.judge.world.setup (world_of film.judge.world) (world_of shot.judge.world) number row) =
    rw is (ap (λ window. kept window judged.scenes s) same_window ∙ ap (λ scenes. kept film.window scenes s) same_scenes) in
    let shows : (setup : Setup) (rows : List Row) → length rows + 2 ≡ number → HasJudged setup rows film.judge → HasJudged setup (rows ++ row ∷ []) shot.judge = rw is judges in
    shown-filmed setup rows row number film shot after (Ok x) (going-is film.judge.stopped going) look.0 (rw is same_at_end) (rw is same_window) at (rw is taken) shows keeps closes filmed

-- a row of an event that names a node and no more names that node
pub node-told : (kind : NodeEventKind) (i : ℕ) → node_in (Row.Event (event_at kind i)) ≡ i
node-told kind i = kind-node kind i

-- and says no more
pub node-bare : (kind : NodeEventKind) (i : ℕ) → None ≡ said_in (Row.Event (event_at kind i))
node-bare kind i = sym (ap (λ k. if is_node_kind k then None else Some (Row.Event (event_at kind i))) (kind-kind kind i))
