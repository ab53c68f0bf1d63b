-- How a node stood before rows and behind each of them, out of what these rows show.
use Rattle.std.specs.Prelude.{IfOk, Result, Ok, Err, slice_get, Vec}
use Rattle.std.specs.declared.alloc.AllocError.{AllocError}
use Rattle.std.specs.declared.alloc.Global.{Global}
use Rattle.bully_rows.specs.Trace.{Trace}
use Rattle.bully_film.specs.declared.film.FinishedFilm.{FinishedFilm}
use Rattle.bully_film.specs.Film.{IsFilmOf}
use Rattle.bully_film.specs.Window.{WindowState}
use Rattle.std.proofs.Common.{zero, suc, Some, ◌≡◌, ◌≢◌, ◌∙◌, ℕ, ◌+◌, ◌-◌, ◌<◌, ◌≤◌, ◌==◌, ◌++◌, Bool, true, false, List, [], ◌∷◌, if◌then◌else◌, refl, sym, ap, subst, arith}
use Rattle.std.proofs.lemmas.Bool.Decides.{nat_tests}
use Rattle.std.proofs.lemmas.List.{append_assoc, append-nil}
use Rattle.bully_base.specs.Setup.{IsNodeNumber, Setup}
use Rattle.bully_rows.specs.declared.trace.Row.{Row}
use Rattle.bully_world.specs.World.{World}
use Rattle.bully_film.specs.declared.snapshot.NodeSnapshot.{NodeSnapshot}
use Rattle.bully_film.specs.Behind.{world_behind}
use Rattle.bully_film.specs.Lane.{lane_in, snapshot_after, snapshot_before, snapshots_after, start_snapshot}
use Rattle.bully_film.specs.Scene.{event_kind_in, lane_of, node_in, place_at, scene_at, scenes_from, snapshot, snapshots_from, snapshots_of}
use Rattle.bully_film.proofs.BehindLemmas.{behind-stays}

same-number : (i j : ℕ) → (i == j) ≡ true → i ≡ j
same-number i j e = grind (arith, nat_tests, e)

other-number : (i j : ℕ) → (i == j) ≡ false → j ≢ i
other-number i j e same = grind (arith, nat_tests, e, same)

-- behind a row
after-is : (setup : Setup) (before : List Row) (row : Row) (j : ℕ) (now : NodeSnapshot) → now ≡ snapshot (world_behind setup before) j
    → snapshot_after j now (scene_at setup before row) ≡ snapshot (world_behind setup (before ++ row ∷ [])) j
after-is setup before row j now is = by_test (node_in row == j) (place_at (world_behind setup before) (node_in row) (event_kind_in row) == j) refl refl
  where
    by_test : (b c : Bool) → (node_in row == j) ≡ b → (place_at (world_behind setup before) (node_in row) (event_kind_in row) == j) ≡ c
        → (if b then snapshot (world_behind setup (before ++ row ∷ [])) (node_in row) else (if c then snapshot (world_behind setup (before ++ row ∷ [])) (place_at (world_behind setup before) (node_in row) (event_kind_in row)) else now))
        ≡ snapshot (world_behind setup (before ++ row ∷ [])) j
    by_test true c own other = ap (snapshot (world_behind setup (before ++ row ∷ []))) (same-number (node_in row) j own)
    by_test false true own other = ap (snapshot (world_behind setup (before ++ row ∷ []))) (same-number (place_at (world_behind setup before) (node_in row) (event_kind_in row)) j other)
    by_test false false own other = is ∙ sym (behind-stays setup before row j (other-number (node_in row) j own) (other-number (place_at (world_behind setup before) (node_in row) (event_kind_in row)) j other))

-- before a row
before-is : (setup : Setup) (before : List Row) (row : Row) (j : ℕ) (now : NodeSnapshot) → now ≡ snapshot (world_behind setup (before ++ row ∷ [])) j
    → snapshot_before j now (scene_at setup before row) ≡ snapshot (world_behind setup before) j
before-is setup before row j now is = by_test (node_in row == j) (place_at (world_behind setup before) (node_in row) (event_kind_in row) == j) refl refl
  where
    by_test : (b c : Bool) → (node_in row == j) ≡ b → (place_at (world_behind setup before) (node_in row) (event_kind_in row) == j) ≡ c
        → (if b then snapshot (world_behind setup before) (node_in row) else (if c then snapshot (world_behind setup before) (place_at (world_behind setup before) (node_in row) (event_kind_in row)) else now))
        ≡ snapshot (world_behind setup before) j
    by_test true c own other = ap (snapshot (world_behind setup before)) (same-number (node_in row) j own)
    by_test false true own other = ap (snapshot (world_behind setup before)) (same-number (place_at (world_behind setup before) (node_in row) (event_kind_in row)) j other)
    by_test false false own other = is ∙ behind-stays setup before row j (other-number (node_in row) j own) (other-number (place_at (world_behind setup before) (node_in row) (event_kind_in row)) j other)

after-all : (setup : Setup) (before rows : List Row) (j : ℕ) (now : NodeSnapshot) → now ≡ snapshot (world_behind setup before) j
    → snapshots_after j now (scenes_from setup before rows) ≡ snapshots_from setup before j rows
after-all setup before [] j now is = refl
after-all setup before (row ∷ rows) j now is =
    let here = after-is setup before row j now is in
    ap (λ x. x ∷ snapshots_after j (snapshot_after j now (scene_at setup before row)) (scenes_from setup (before ++ row ∷ []) rows)) here
    ∙ ap (λ l. snapshot (world_behind setup (before ++ row ∷ [])) j ∷ l) (after-all setup (before ++ row ∷ []) rows j (snapshot_after j now (scene_at setup before row)) here)

start-is : (setup : Setup) (before rows : List Row) (j : ℕ) (at_end : NodeSnapshot) → at_end ≡ snapshot (world_behind setup (before ++ rows)) j
    → start_snapshot j (scenes_from setup before rows) at_end ≡ snapshot (world_behind setup before) j
start-is setup before [] j at_end is = subst (λ rows. at_end ≡ snapshot (world_behind setup rows) j) (append-nil before) is
start-is setup before (row ∷ rows) j at_end is =
    before-is setup before row j (start_snapshot j (scenes_from setup (before ++ row ∷ []) rows) at_end)
    (start-is setup (before ++ row ∷ []) rows j at_end (subst (λ all. at_end ≡ snapshot (world_behind setup all) j) (sym (append_assoc before (row ∷ []) rows)) is))

-- the lane of a node that stands so behind these rows
pub lane-is : (setup : Setup) (before rows : List Row) (j : ℕ) (at_end : NodeSnapshot) → at_end ≡ snapshot (world_behind setup (before ++ rows)) j
    → lane_in j (scenes_from setup before rows) at_end ≡ lane_of setup before j rows
lane-is setup before rows j at_end is =
    let start = start-is setup before rows j at_end is in
    ap (λ x. x ∷ snapshots_after j (start_snapshot j (scenes_from setup before rows) at_end) (scenes_from setup before rows)) start
    ∙ ap (λ l. snapshot (world_behind setup before) j ∷ l) (after-all setup before rows j (start_snapshot j (scenes_from setup before rows) at_end) start)

-- ---- what a finished film has

-- the snapshot at a place of all of them
snapshots_of-at : (w : World) (i k n : ℕ) → n < k → slice_get (snapshots_of w i k) n ≡ Some (snapshot w (i + n))
snapshots_of-at w i zero n below = absurd (omega (arith, below))
snapshots_of-at w i (suc k) zero below = let e : i ≡ i + 0 = omega arith in ap (λ j. Some (snapshot w j)) e
snapshots_of-at w i (suc k) (suc n) below =
    let e : i + 1 + n ≡ i + suc n = omega arith in
    snapshots_of-at w (i + 1) k n (omega (arith, below)) ∙ ap (λ j. Some (snapshot w j)) e

pub lane-told : (window : WindowState) (trace : Trace) (finished : FinishedFilm) (is : IsFilmOf window finished trace) (j : ℕ) (at_end : NodeSnapshot) (made : Result (Vec NodeSnapshot Global) AllocError)
    → at_end ≡ snapshot (world_behind trace.setup (is.before ++ is.shown)) j
    → IfOk made (λ snapshots. snapshots.items ≡ lane_in j finished.scenes.items at_end)
    → IfOk made (λ snapshots. snapshots.items ≡ lane_of trace.setup is.before j is.shown)
lane-told window trace finished is j at_end (Ok snapshots) same made =
    made ∙ ap (λ scenes. lane_in j scenes at_end) is.scenes ∙ lane-is trace.setup is.before is.shown j at_end same
lane-told window trace finished is j at_end (Err e) same made = tt

pub at_end-there : (window : WindowState) (trace : Trace) (finished : FinishedFilm) (is : IsFilmOf window finished trace) (j : ℕ) → IsNodeNumber j → j ≤ finished.setup.nodes
    → slice_get finished.at_end.items (j - 1) ≡ Some (snapshot (world_behind trace.setup (is.before ++ is.shown)) j)
at_end-there window trace finished is j node within =
    let e : 1 + (j - 1) ≡ j = omega (arith, node.0) in
    let nodes : finished.setup.nodes ≡ trace.setup.nodes = ap (λ (s : Setup). s.nodes) is.same in
    ap (λ snapshots. slice_get snapshots (j - 1)) is.at_end
    ∙ snapshots_of-at (world_behind trace.setup (is.before ++ is.shown)) 1 trace.setup.nodes (j - 1) (omega (arith, node.0, within, nodes))
    ∙ ap (λ i. Some (snapshot (world_behind trace.setup (is.before ++ is.shown)) i)) e

-- one more snapshot of all of them
pub snapshots-more : (w : World) (done more : List NodeSnapshot) (before nodes node : ℕ) (x : NodeSnapshot) → node ≡ before + 1 → before < nodes → x ≡ snapshot w node → more ≡ done ++ x ∷ []
    → done ++ snapshots_of w (before + 1) (nodes - before) ≡ snapshots_of w 1 nodes
    → more ++ snapshots_of w (before + 1 + 1) (nodes - (before + 1)) ≡ snapshots_of w 1 nodes
snapshots-more w done more before nodes node x number below is all rest =
    let e : nodes - before ≡ suc (nodes - (before + 1)) = omega (arith, below) in
    ap (λ l. l ++ snapshots_of w (before + 1 + 1) (nodes - (before + 1))) all
    ∙ append_assoc done (x ∷ []) (snapshots_of w (before + 1 + 1) (nodes - (before + 1)))
    ∙ ap (λ y. done ++ (y ∷ snapshots_of w (before + 1 + 1) (nodes - (before + 1)))) (is ∙ ap (snapshot w) number)
    ∙ ap (λ k. done ++ snapshots_of w (before + 1) k) (sym e)
    ∙ rest
