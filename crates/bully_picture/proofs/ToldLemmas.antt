-- The rows of a picture for a terminal, and how the nodes stand behind each.
use Rattle.std.proofs.Common.{◌≡◌, ◌≢◌, ◌∙◌, ℕ, zero, suc, ◌+◌, ◌-◌, ◌<◌, ◌≤◌, ◌==◌, ◌++◌, Bool, true, false, List, [], ◌∷◌, drop, get_or, if◌then◌else◌, length, refl, sym, ap, arith}
use Rattle.std.proofs.lemmas.Bool.Decides.{nat_tests}
use Rattle.std.proofs.lemmas.List.{append_assoc, at_drop_all, at_drop_more, ext_get_or}
use Rattle.bully_base.proofs.PlaceLemmas.{at_node-place, at_node_other, at_node_same, length-put_node}
use Rattle.bully_base.specs.Places.{at_node, put_node}
use Rattle.bully_base.specs.Setup.{Setup}
use Rattle.bully_world.specs.World.{World}
use Rattle.bully_rows.specs.declared.trace.Row.{Row}
use Rattle.bully_rows.specs.Trace.{Trace}
use Rattle.bully_trace.specs.declared.verdict.Verdict.{Verdict}
use Rattle.bully_trace.specs.OneRow.{decides}
use Rattle.bully_film.specs.declared.film.FinishedFilm.{FinishedFilm}
use Rattle.bully_film.specs.declared.scene.Scene.{Scene}
use Rattle.bully_film.specs.declared.snapshot.NodeSnapshot.{NodeSnapshot}
use Rattle.bully_film.specs.Behind.{world_behind}
use Rattle.bully_film.specs.Film.{IsFilmOf}
use Rattle.bully_film.specs.Scene.{event_kind_in, node_in, place_at, scene_at, scenes_from, snapshot, snapshots_of, unseen}
use Rattle.bully_film.specs.Window.{WindowState}
use Rattle.bully_film.proofs.BehindLemmas.{behind-stays}
use Rattle.bully_picture.specs.Told.{Told, is_told, quiet_text, stood, told_behind, told_from, told_line, told_text}
use Rattle.bully_picture.specs.Written.{Writes, Written}
use Rattle.bully_picture.proofs.WrittenLemmas.{writes-as, writes-nothing, writes-then}

-- ---- the lines, row by row

abbrev pub told_of : Scene → List NodeSnapshot → Told
told_of s nodes = record { scene = s; nodes = nodes }

-- the lines of the rows that are left, of which this is the next one
told-next : (verdict : Verdict) (nodes quiet : ℕ) (now behind : List NodeSnapshot) (scenes : List Scene) (i : ℕ) (s : Scene) → i < length scenes → s ≡ get_or scenes i s → behind ≡ stood now s
    → told_text verdict nodes quiet (told_behind now (drop i scenes))
    ≡ (if is_told verdict s then quiet_text quiet ++ told_line nodes (decides verdict s.number) (told_of s behind) ++ told_text verdict nodes 0 (told_behind behind (drop (i + 1) scenes))
    else told_text verdict nodes (quiet + 1) (told_behind behind (drop (i + 1) scenes)))
told-next verdict nodes quiet now behind scenes i s within is stands =
    at_drop_more (λ (l : List Scene). told_text verdict nodes quiet (told_behind now l)) scenes i s within
    ∙ ap (λ (one : Scene). told_text verdict nodes quiet (told_behind now (one ∷ drop (i + 1) scenes))) (sym is)
    ∙ ap (λ (after : List NodeSnapshot). if is_told verdict s
    then quiet_text quiet ++ told_line nodes (decides verdict s.number) (told_of s after) ++ told_text verdict nodes 0 (told_behind after (drop (i + 1) scenes))
    else told_text verdict nodes (quiet + 1) (told_behind after (drop (i + 1) scenes))) (sym stands)

-- so far the lines of rows were written: with those of the rest, behind so many rows that have none, they are all
abbrev pub HasTold : Written → Written → Verdict → ℕ → ℕ → List Told → List Told → Type 0
HasTold start now verdict nodes quiet rest rows =
    (part : List ℕ) × Writes start now part × (part ++ told_text verdict nodes quiet rest ≡ told_text verdict nodes 0 rows)

pub told-first : (start : Written) (verdict : Verdict) (nodes : ℕ) (rows : List Told) → HasTold start start verdict nodes 0 rows rows
told-first start verdict nodes rows = ([], writes-nothing start, refl)

-- a row that has its line
pub told-line : (verdict : Verdict) (nodes quiet : ℕ) (now behind : List NodeSnapshot) (scenes : List Scene) (rows : List Told) (i : ℕ) (s : Scene) (start a q b : Written)
    → i < length scenes → s ≡ get_or scenes i s → behind ≡ stood now s → is_told verdict s ≡ true
    → HasTold start a verdict nodes quiet (told_behind now (drop i scenes)) rows → Writes a q (quiet_text quiet)
    → Writes q b (told_line nodes (decides verdict s.number) (told_of s behind)) → HasTold start b verdict nodes 0 (told_behind behind (drop (i + 1) scenes)) rows
told-line verdict nodes quiet now behind scenes rows i s start a q b within is stands told (part, written, whole) between line =
    let one = told_line nodes (decides verdict s.number) (told_of s behind) in
    let rest = told_text verdict nodes 0 (told_behind behind (drop (i + 1) scenes)) in
    let next : told_text verdict nodes quiet (told_behind now (drop i scenes)) ≡ quiet_text quiet ++ one ++ rest =
    told-next verdict nodes quiet now behind scenes i s within is stands
    ∙ ap (λ b. if b then quiet_text quiet ++ one ++ rest else told_text verdict nodes (quiet + 1) (told_behind behind (drop (i + 1) scenes))) told in
    let apart : part ++ quiet_text quiet ++ one ++ rest ≡ part ++ (quiet_text quiet ++ one ++ rest) = simp append_assoc in
    (part ++ quiet_text quiet ++ one, writes-then (writes-then written between) line, apart ∙ ap (λ t. part ++ t) (sym next) ∙ whole)

-- a row that has none
pub told-none : (verdict : Verdict) (nodes quiet : ℕ) (now behind : List NodeSnapshot) (scenes : List Scene) (rows : List Told) (i : ℕ) (s : Scene) (start a : Written)
    → i < length scenes → s ≡ get_or scenes i s → behind ≡ stood now s → is_told verdict s ≡ false
    → HasTold start a verdict nodes quiet (told_behind now (drop i scenes)) rows → HasTold start a verdict nodes (quiet + 1) (told_behind behind (drop (i + 1) scenes)) rows
told-none verdict nodes quiet now behind scenes rows i s start a within is stands told (part, written, whole) =
    let one = told_line nodes (decides verdict s.number) (told_of s behind) in
    let rest = told_text verdict nodes 0 (told_behind behind (drop (i + 1) scenes)) in
    let next : told_text verdict nodes quiet (told_behind now (drop i scenes)) ≡ told_text verdict nodes (quiet + 1) (told_behind behind (drop (i + 1) scenes)) =
    told-next verdict nodes quiet now behind scenes i s within is stands
    ∙ ap (λ b. if b then quiet_text quiet ++ one ++ rest else told_text verdict nodes (quiet + 1) (told_behind behind (drop (i + 1) scenes))) told in
    (part, written, ap (λ t. part ++ t) (sym next) ∙ whole)

-- all rows have theirs
pub told-all : (verdict : Verdict) (nodes quiet : ℕ) (now : List NodeSnapshot) (scenes : List Scene) (rows : List Told) (i : ℕ) (start a b : Written) → length scenes ≤ i
    → HasTold start a verdict nodes quiet (told_behind now (drop i scenes)) rows → Writes a b (quiet_text quiet) → Writes start b (told_text verdict nodes 0 rows)
told-all verdict nodes quiet now scenes rows i start a b all (part, written, whole) between =
    let end : told_text verdict nodes quiet (told_behind now (drop i scenes)) ≡ quiet_text quiet =
    at_drop_all (λ (l : List Scene). told_text verdict nodes quiet (told_behind now l)) scenes i all in
    writes-as (ap (λ t. part ++ t) (sym end) ∙ whole) (writes-then written between)

-- ---- the world behind each row

snapshots-at : (w : World) (i k j : ℕ) (d : NodeSnapshot) → j < k → get_or (snapshots_of w i k) j d ≡ snapshot w (i + j)
snapshots-at w i zero j d below = absurd (omega (arith, below))
snapshots-at w i (suc k) zero d below = let e : i ≡ i + 0 = omega arith in ap (snapshot w) e
snapshots-at w i (suc k) (suc j) d below =
    let e : i + 1 + j ≡ i + suc j = omega arith in
    snapshots-at w (i + 1) k j d (omega (arith, below)) ∙ ap (snapshot w) e

length-snapshots : (w : World) (i k : ℕ) → length (snapshots_of w i k) ≡ k
length-snapshots w i zero = refl
length-snapshots w i (suc k) = ap suc (length-snapshots w (i + 1) k)

node-at : (w : World) (n j : ℕ) → 0 < j → j ≤ n → at_node unseen (snapshots_of w 1 n) j ≡ snapshot w j
node-at w n j low high =
    let e : j - 1 + 1 ≡ j = omega (arith, low) in
    let e' : 1 + (j - 1) ≡ j = omega (arith, low) in
    at_node-place unseen unseen (snapshots_of w 1 n) (j - 1) j e (omega (arith, low, high, length-snapshots w 1 n))
    ∙ snapshots-at w 1 n (j - 1) unseen (omega (arith, low, high)) ∙ ap (snapshot w) e'

-- a node whose place was written
node-put : (nodes : List NodeSnapshot) (i j : ℕ) (x y : NodeSnapshot) → i ≡ j → 0 < j → j ≤ length nodes → x ≡ y → at_node unseen (put_node nodes i x) j ≡ y
node-put nodes i j x y same low high is =
    ap (λ k. at_node unseen (put_node nodes k x) j) same ∙ at_node_same unseen nodes j x low high ∙ is

node-stood : (setup : Setup) (before : List Row) (row : Row) (n j : ℕ) → 0 < j → j ≤ n
    → at_node unseen (stood (snapshots_of (world_behind setup before) 1 n) (scene_at setup before row)) j ≡ snapshot (world_behind setup (before ++ row ∷ [])) j
node-stood setup before row n j low high =
    by_test (node_in row == j) (place_at (world_behind setup before) (node_in row) (event_kind_in row) == j) refl refl
  where
    by_test : (b c : Bool) → (node_in row == j) ≡ b → (place_at (world_behind setup before) (node_in row) (event_kind_in row) == j) ≡ c
        → at_node unseen (stood (snapshots_of (world_behind setup before) 1 n) (scene_at setup before row)) j ≡ snapshot (world_behind setup (before ++ row ∷ [])) j
    by_test true c own other =
        let same : node_in row ≡ j = grind (arith, nat_tests, own) in
        node-put (put_node (snapshots_of (world_behind setup before) 1 n) (place_at (world_behind setup before) (node_in row) (event_kind_in row))
        (snapshot (world_behind setup (before ++ row ∷ [])) (place_at (world_behind setup before) (node_in row) (event_kind_in row))))
        (node_in row) j (snapshot (world_behind setup (before ++ row ∷ [])) (node_in row)) (snapshot (world_behind setup (before ++ row ∷ [])) j) same low
        (omega (
          arith,
          high,
          length-snapshots (world_behind setup before) 1 n,
          length-put_node (snapshots_of (world_behind setup before) 1 n) (place_at (world_behind setup before) (node_in row) (event_kind_in row))
              (snapshot (world_behind setup (before ++ row ∷ [])) (place_at (world_behind setup before) (node_in row) (event_kind_in row))),
        ))
        (ap (snapshot (world_behind setup (before ++ row ∷ []))) same)
    by_test false true own other =
        let apart : j ≢ node_in row = λ e. grind (arith, nat_tests, own, e) in
        let same : place_at (world_behind setup before) (node_in row) (event_kind_in row) ≡ j = grind (arith, nat_tests, other) in
        at_node_other unseen (put_node (snapshots_of (world_behind setup before) 1 n) (place_at (world_behind setup before) (node_in row) (event_kind_in row))
        (snapshot (world_behind setup (before ++ row ∷ [])) (place_at (world_behind setup before) (node_in row) (event_kind_in row))))
        (node_in row) j (snapshot (world_behind setup (before ++ row ∷ [])) (node_in row)) apart
        ∙ node-put (snapshots_of (world_behind setup before) 1 n) (place_at (world_behind setup before) (node_in row) (event_kind_in row)) j
        (snapshot (world_behind setup (before ++ row ∷ [])) (place_at (world_behind setup before) (node_in row) (event_kind_in row)))
        (snapshot (world_behind setup (before ++ row ∷ [])) j) same low (omega (arith, high, length-snapshots (world_behind setup before) 1 n))
        (ap (snapshot (world_behind setup (before ++ row ∷ []))) same)
    by_test false false own other =
        let apart : j ≢ node_in row = λ e. grind (arith, nat_tests, own, e) in
        let beside : j ≢ place_at (world_behind setup before) (node_in row) (event_kind_in row) = λ e. grind (arith, nat_tests, other, e) in
        at_node_other unseen (put_node (snapshots_of (world_behind setup before) 1 n) (place_at (world_behind setup before) (node_in row) (event_kind_in row))
        (snapshot (world_behind setup (before ++ row ∷ [])) (place_at (world_behind setup before) (node_in row) (event_kind_in row))))
        (node_in row) j (snapshot (world_behind setup (before ++ row ∷ [])) (node_in row)) apart
        ∙ at_node_other unseen (snapshots_of (world_behind setup before) 1 n) (place_at (world_behind setup before) (node_in row) (event_kind_in row)) j
        (snapshot (world_behind setup (before ++ row ∷ [])) (place_at (world_behind setup before) (node_in row) (event_kind_in row))) beside
        ∙ node-at (world_behind setup before) n j low high ∙ sym (behind-stays setup before row j apart beside)

nodes-stood : (setup : Setup) (before : List Row) (row : Row) (n : ℕ)
    → stood (snapshots_of (world_behind setup before) 1 n) (scene_at setup before row) ≡ snapshots_of (world_behind setup (before ++ row ∷ [])) 1 n
nodes-stood setup before row n =
    let i = node_in row in
    let p = place_at (world_behind setup before) i (event_kind_in row) in
    let w' = world_behind setup (before ++ row ∷ []) in
    let start = snapshots_of (world_behind setup before) 1 n in
    let long : length (put_node (put_node start p (snapshot w' p)) i (snapshot w' i)) ≡ n =
    length-put_node (put_node start p (snapshot w' p)) i (snapshot w' i) ∙ length-put_node start p (snapshot w' p) ∙ length-snapshots (world_behind setup before) 1 n in
    ext_get_or unseen (put_node (put_node start p (snapshot w' p)) i (snapshot w' i)) (snapshots_of w' 1 n) (long ∙ sym (length-snapshots w' 1 n))
    (λ k low.
    let e : k + 1 ≡ 1 + k = omega arith in
    sym (at_node-place unseen unseen (put_node (put_node start p (snapshot w' p)) i (snapshot w' i)) k (k + 1) refl low)
    ∙ node-stood setup before row n (k + 1) (omega arith) (omega (arith, low, long)) ∙ ap (snapshot w') e
    ∙ sym (snapshots-at w' 1 n k unseen (omega (arith, low, long))))

told-is : (setup : Setup) (before rows : List Row)
    → told_behind (snapshots_of (world_behind setup before) 1 setup.nodes) (scenes_from setup before rows) ≡ told_from setup before rows
told-is setup before [] = refl
told-is setup before (row ∷ rows) =
    ap (λ (nodes : List NodeSnapshot). told_of (scene_at setup before row) nodes ∷ told_behind nodes (scenes_from setup (before ++ row ∷ []) rows))
    (nodes-stood setup before row setup.nodes)
    ∙ ap (λ (l : List Told). told_of (scene_at setup before row) (snapshots_of (world_behind setup (before ++ row ∷ [])) 1 setup.nodes) ∷ l)
    (told-is setup (before ++ row ∷ []) rows)

-- the rows of a film, before which the nodes stand as in the world there
pub told-world : (window : WindowState) (trace : Trace) (finished : FinishedFilm) (is : IsFilmOf window finished trace) (now : List NodeSnapshot)
    → now ≡ snapshots_of (world_behind trace.setup is.before) 1 finished.setup.nodes → told_behind now finished.scenes.items ≡ told_from trace.setup is.before is.shown
told-world window trace finished is now same =
    ap (λ n. told_behind n finished.scenes.items) (same ∙ ap (λ (setup : Setup). snapshots_of (world_behind trace.setup is.before) 1 setup.nodes) is.same)
    ∙ ap (told_behind (snapshots_of (world_behind trace.setup is.before) 1 trace.setup.nodes)) is.scenes ∙ told-is trace.setup is.before is.shown
