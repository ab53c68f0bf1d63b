-- Which rows are remembered, behind one more row.
use Rattle.std.proofs.Common.{◌≡◌, ◌∙◌, ◌⊎◌, inl, inr, ℕ, zero, suc, ◌+◌, ◌<◌, ◌≤◌, ◌==◌, ◌&&◌, ◌++◌, Bool, true, false, List, [], ◌∷◌, Option, Some, None, MatchOption, length, refl, sym, ap, subst, arith, length-append, append_assoc, append-nil, IfSome, option_map, slice_get, if◌then◌else◌}
use Rattle.std.proofs.lemmas.Bool.Decides.{nat_tests}
use Rattle.std.proofs.lemmas.Option.{same_Some}
use Rattle.bully_base.specs.Setup.{Setup}
use Rattle.bully_calls.specs.declared.call.Answer.{Answer}
use Rattle.bully_calls.specs.declared.event.Event.{Event}
use Rattle.bully_rows.specs.declared.trace.Row.{Row}
use Rattle.bully_world.specs.NodeInvariant.{WorldInvariant}
use Rattle.bully_world.specs.Step.{Step}
use Rattle.bully_world.specs.World.{World}
use Rattle.bully_account.specs.declared.memory.Note.{Note}
use Rattle.bully_account.specs.declared.moving.Moves.{Moves}
use Rattle.bully_account.specs.Moving.{moves_in}
use Rattle.bully_account.specs.Remembered.{Remembered, behind_event, each_from, last_notes, nothing_yet}
use Rattle.bully_account.specs.RowsOf.{AreNotesAt, AreNotesBehind, AreNotesOf, AreRemembered, IsBehind, IsEventAt, IsLastPlan, IsLastStart, IsRemembered, IsRowAt, event_in}
use Rattle.bully_account.proofs.NotesLemmas.{behind-later, fresh, fresh-notes, notes-last, notes-more, notes_on, planned_on, started_on}
use Rattle.bully_account.proofs.StepLemmas.{behind-fits, has-started}

-- ---- one more row

pub row-more : (rows : List Row) (last : Row) (number : ℕ) (row : Row) → IsRowAt rows number row → IsRowAt (rows ++ last ∷ []) number row
row-more rows last number row at = record {
  before = at.before;
  behind = at.behind ++ last ∷ [];
  all = ap (λ l. l ++ last ∷ []) at.all ∙ append_assoc at.before (row ∷ at.behind) (last ∷ []);
  place = at.place;
}

pub row-last : (rows : List Row) (last : Row) (number : ℕ) → length rows + 2 ≡ number → IsRowAt (rows ++ last ∷ []) number last
row-last rows last number place = record { before = rows; behind = []; all = refl; place = place }

pub row-below : (rows : List Row) (number : ℕ) (row : Row) → IsRowAt rows number row → number < length rows + 2
row-below rows number row at =
    let size : length rows ≡ length at.before + length (row ∷ at.behind) = ap length at.all ∙ length-append at.before (row ∷ at.behind) in
    omega (arith, size, at.place)

event-more : (rows : List Row) (last : Row) (number : ℕ) (e : Event) → IsEventAt rows number e → IsEventAt (rows ++ last ∷ []) number e
event-more rows last number e (row, at, tells) = (row, row-more rows last number row at, tells)

-- the last one is the one more, or one of those before it
row-split : (rows before behind : List Row) (last row : Row) → rows ++ last ∷ [] ≡ before ++ row ∷ behind → ((before ≡ rows) × (row ≡ last)) ⊎ ((more : List Row) × (rows ≡ before ++ row ∷ more))
row-split [] [] behind last row same = let is : row ≡ last = cc in inl (refl, is)
row-split [] (b ∷ []) behind last row same = absurd (cc same)
row-split [] (b ∷ (c ∷ before)) behind last row same = absurd (cc same)
row-split (r ∷ rows) [] behind last row same = let first : r ≡ row = cc in inr (rows, ap (λ (x : Row). x ∷ rows) first)
row-split (r ∷ rows) (b ∷ before) behind last row same =
    let first : r ≡ b = cc in
    let others : rows ++ last ∷ [] ≡ before ++ row ∷ behind = cc in
    joined first (row-split rows before behind last row others)
  where
    joined : r ≡ b → ((before ≡ rows) × (row ≡ last)) ⊎ ((more : List Row) × (rows ≡ before ++ row ∷ more))
        → ((b ∷ before ≡ r ∷ rows) × (row ≡ last)) ⊎ ((more : List Row) × (r ∷ rows ≡ b ∷ (before ++ row ∷ more)))
    joined first (inl h) = inl (ap (λ (x : Row). x ∷ before) (sym first) ∙ ap (λ (l : List Row). r ∷ l) h.0, h.1)
    joined first (inr h) = inr (h.0, ap (λ (x : Row). x ∷ rows) first ∙ ap (λ (l : List Row). b ∷ l) h.1)

event-split : (rows : List Row) (last : Row) (number : ℕ) (e : Event) → IsEventAt (rows ++ last ∷ []) number e → ((number ≡ length rows + 2) × (event_in last ≡ Some e)) ⊎ IsEventAt rows number e
event-split rows last number e (row, at, tells) = by_place (row-split rows at.before at.behind last row at.all)
  where
    by_place : ((at.before ≡ rows) × (row ≡ last)) ⊎ ((more : List Row) × (rows ≡ at.before ++ row ∷ more)) → ((number ≡ length rows + 2) × (event_in last ≡ Some e)) ⊎ IsEventAt rows number e
    by_place (inl h) = inl (sym at.place ∙ ap (λ (l : List Row). length l + 2) h.0, ap event_in (sym h.1) ∙ tells)
    by_place (inr h) = inr (row, record { before = at.before; behind = h.0; all = h.1; place = at.place }, tells)

event-below : (rows : List Row) (number : ℕ) (e : Event) → IsEventAt rows number e → number < length rows + 2
event-below rows number e (row, at, tells) = row-below rows number row at

-- ---- the last start, and the last plan

start-new : (rows : List Row) (row : Row) (j number : ℕ) → length rows + 2 ≡ number → event_in row ≡ Some (Event.Start j) → IsLastStart (rows ++ row ∷ []) j (Some number)
start-new rows row j number place tells = ((row, row-last rows row number place, tells), λ n at. by_place n (event-split rows row n (Event.Start j) at))
  where
    by_place : (n : ℕ) → ((n ≡ length rows + 2) × (event_in row ≡ Some (Event.Start j))) ⊎ IsEventAt rows n (Event.Start j) → n ≤ number
    by_place n (inl h) = omega (arith, h.0, place)
    by_place n (inr at) = let below = event-below rows n (Event.Start j) at in omega (arith, below, place)

start-kept : (rows : List Row) (row : Row) (j : ℕ) (started : Option ℕ) → (event_in row ≡ Some (Event.Start j) → ⊥) → IsLastStart rows j started → IsLastStart (rows ++ row ∷ []) j started
start-kept rows row j None other is = λ n at. by_place n (event-split rows row n (Event.Start j) at)
  where
    by_place : (n : ℕ) → ((n ≡ length rows + 2) × (event_in row ≡ Some (Event.Start j))) ⊎ IsEventAt rows n (Event.Start j) → ⊥
    by_place n (inl h) = other h.1
    by_place n (inr at) = is n at
start-kept rows row j (Some last) other (is, latest) = (event-more rows row last (Event.Start j) is, λ n at. by_place n (event-split rows row n (Event.Start j) at))
  where
    by_place : (n : ℕ) → ((n ≡ length rows + 2) × (event_in row ≡ Some (Event.Start j))) ⊎ IsEventAt rows n (Event.Start j) → n ≤ last
    by_place n (inl h) = absurd (other h.1)
    by_place n (inr at) = latest n at

plan-new : (rows : List Row) (row : Row) (j number : ℕ) (table : List ℕ) → length rows + 2 ≡ number → event_in row ≡ Some (Event.Plan j table) → IsLastPlan (rows ++ row ∷ []) j (Some table)
plan-new rows row j number table place tells = (number, (row, row-last rows row number place, tells), λ n other at. by_place n other (event-split rows row n (Event.Plan j other) at))
  where
    by_place : (n : ℕ) (other : List ℕ) → ((n ≡ length rows + 2) × (event_in row ≡ Some (Event.Plan j other))) ⊎ IsEventAt rows n (Event.Plan j other) → n ≤ number
    by_place n other (inl h) = omega (arith, h.0, place)
    by_place n other (inr at) = let below = event-below rows n (Event.Plan j other) at in omega (arith, below, place)

plan-kept : (rows : List Row) (row : Row) (j : ℕ) (planned : Option (List ℕ)) → ((table : List ℕ) → event_in row ≡ Some (Event.Plan j table) → ⊥) → IsLastPlan rows j planned
    → IsLastPlan (rows ++ row ∷ []) j planned
plan-kept rows row j None other is = λ n table at. by_place n table (event-split rows row n (Event.Plan j table) at)
  where
    by_place : (n : ℕ) (table : List ℕ) → ((n ≡ length rows + 2) × (event_in row ≡ Some (Event.Plan j table))) ⊎ IsEventAt rows n (Event.Plan j table) → ⊥
    by_place n table (inl h) = other table h.1
    by_place n table (inr at) = is n table at
plan-kept rows row j (Some kept) other (last, is, latest) = (last, event-more rows row last (Event.Plan j kept) is, λ n table at. by_place n table (event-split rows row n (Event.Plan j table) at))
  where
    by_place : (n : ℕ) (table : List ℕ) → ((n ≡ length rows + 2) × (event_in row ≡ Some (Event.Plan j table))) ⊎ IsEventAt rows n (Event.Plan j table) → n ≤ last
    by_place n table (inl h) = absurd (other table h.1)
    by_place n table (inr at) = latest n table at

-- of an event that is no start
no-start : (rows : List Row) (row : Row) (e : Event) (j : ℕ) (started : Option ℕ) → ((i : ℕ) → e ≡ Event.Start i → ⊥) → event_in row ≡ Some e → IsLastStart rows j started
    → IsLastStart (rows ++ row ∷ []) j started
no-start rows row e j started none tells = start-kept rows row j started (λ is. none j (same_Some e (Event.Start j) (sym tells ∙ is)))

start-on : (rows : List Row) (row : Row) (e : Event) (j number : ℕ) (started : Option ℕ) → length rows + 2 ≡ number → event_in row ≡ Some e → IsLastStart rows j started
    → IsLastStart (rows ++ row ∷ []) j (started_on e number j started)
start-on rows row (Event.Recover i) j number started place tells = no-start rows row (Event.Recover i) j started (λ k is. absurd (cc is)) tells
start-on rows row (Event.Crash i) j number started place tells = no-start rows row (Event.Crash i) j started (λ k is. absurd (cc is)) tells
start-on rows row (Event.Check i) j number started place tells = no-start rows row (Event.Check i) j started (λ k is. absurd (cc is)) tells
start-on rows row (Event.Timeout i) j number started place tells = no-start rows row (Event.Timeout i) j started (λ k is. absurd (cc is)) tells
start-on rows row (Event.Start i) j number started place tells = by_test (j == i) refl
  where
    by_test : (b : Bool) → (j == i) ≡ b → IsLastStart rows j started → IsLastStart (rows ++ row ∷ []) j (if b then Some number else started)
    by_test true same is =
        let at : j ≡ i = grind (arith, nat_tests, same) in
        start-new rows row j number place (tells ∙ ap (λ (n : ℕ). Some (Event.Start n)) (sym at))
    by_test false apart is = start-kept rows row j started (λ told.
        let at : Event.Start i ≡ Event.Start j = same_Some (Event.Start i) (Event.Start j) (sym tells ∙ told) in
        let same : i ≡ j = cc in
        absurd (grind (arith, nat_tests, apart, same))) is
start-on rows row (Event.Run i) j number started place tells = no-start rows row (Event.Run i) j started (λ k is. absurd (cc is)) tells
start-on rows row (Event.Lose i) j number started place tells = no-start rows row (Event.Lose i) j started (λ k is. absurd (cc is)) tells
start-on rows row (Event.Return i) j number started place tells = no-start rows row (Event.Return i) j started (λ k is. absurd (cc is)) tells
start-on rows row (Event.Drop i) j number started place tells = no-start rows row (Event.Drop i) j started (λ k is. absurd (cc is)) tells
start-on rows row (Event.Move i) j number started place tells = no-start rows row (Event.Move i) j started (λ k is. absurd (cc is)) tells
start-on rows row (Event.Plan i table) j number started place tells = no-start rows row (Event.Plan i table) j started (λ k is. absurd (cc is)) tells

-- of an event that is no plan
no-plan : (rows : List Row) (row : Row) (e : Event) (j : ℕ) (planned : Option (List ℕ)) → ((i : ℕ) (table : List ℕ) → e ≡ Event.Plan i table → ⊥) → event_in row ≡ Some e → IsLastPlan rows j planned
    → IsLastPlan (rows ++ row ∷ []) j planned
no-plan rows row e j planned none tells = plan-kept rows row j planned (λ table is. none j table (same_Some e (Event.Plan j table) (sym tells ∙ is)))

plan-on : (setup : Setup) (v w : World) (a : Answer) (rows : List Row) (row : Row) (e : Event) (j number room : ℕ) (planned : Option (List ℕ)) → Step setup v e w a → room ≡ setup.partitions
    → length rows + 2 ≡ number → event_in row ≡ Some e → IsLastPlan rows j planned → IsLastPlan (rows ++ row ∷ []) j (planned_on e room j planned)
plan-on setup v w a rows row (Event.Recover i) j number room planned step fits place tells = no-plan rows row (Event.Recover i) j planned (λ k t is. absurd (cc is)) tells
plan-on setup v w a rows row (Event.Crash i) j number room planned step fits place tells = no-plan rows row (Event.Crash i) j planned (λ k t is. absurd (cc is)) tells
plan-on setup v w a rows row (Event.Check i) j number room planned step fits place tells = no-plan rows row (Event.Check i) j planned (λ k t is. absurd (cc is)) tells
plan-on setup v w a rows row (Event.Timeout i) j number room planned step fits place tells = no-plan rows row (Event.Timeout i) j planned (λ k t is. absurd (cc is)) tells
plan-on setup v w a rows row (Event.Start i) j number room planned step fits place tells = no-plan rows row (Event.Start i) j planned (λ k t is. absurd (cc is)) tells
plan-on setup v w a rows row (Event.Run i) j number room planned step fits place tells = no-plan rows row (Event.Run i) j planned (λ k t is. absurd (cc is)) tells
plan-on setup v w a rows row (Event.Lose i) j number room planned step fits place tells = no-plan rows row (Event.Lose i) j planned (λ k t is. absurd (cc is)) tells
plan-on setup v w a rows row (Event.Return i) j number room planned step fits place tells = no-plan rows row (Event.Return i) j planned (λ k t is. absurd (cc is)) tells
plan-on setup v w a rows row (Event.Drop i) j number room planned step fits place tells = no-plan rows row (Event.Drop i) j planned (λ k t is. absurd (cc is)) tells
plan-on setup v w a rows row (Event.Move i) j number room planned step fits place tells = no-plan rows row (Event.Move i) j planned (λ k t is. absurd (cc is)) tells
plan-on setup v w a rows row (Event.Plan i table) j number room planned (at, free, size, balanced, leads, answered) fits place tells = by_tests (j == i) (length table == room) refl full
  where
    full : (length table == room) ≡ true
    full = grind (arith, nat_tests, size, fits)

    by_tests : (b f : Bool) → (j == i) ≡ b → f ≡ true → IsLastPlan rows j planned → IsLastPlan (rows ++ row ∷ []) j (if b && f then Some table else planned)
    by_tests true true same all is =
        let here : j ≡ i = grind (arith, nat_tests, same) in
        plan-new rows row j number table place (tells ∙ ap (λ (n : ℕ). Some (Event.Plan n table)) (sym here))
    by_tests true false same all is = absurd (cc all)
    by_tests false f apart all is = plan-kept rows row j planned (λ t told.
        let at : Event.Plan i table ≡ Event.Plan j t = same_Some (Event.Plan i table) (Event.Plan j t) (sym tells ∙ told) in
        let same : i ≡ j = cc in
        absurd (grind (arith, nat_tests, apart, same))) is

-- ---- one node

-- behind a row of an event
pub remembered-event : (setup : Setup) (before : List Row) (row : Row) (v w : World) (e : Event) (a : Answer) (number : ℕ) (moves : Moves) (j : ℕ) (m : Remembered)
    → length before + 2 ≡ number → event_in row ≡ Some e → IsBehind setup before v → IsBehind setup (before ++ row ∷ []) w → Step setup v e w a → moves ≡ moves_in v e
    → IsRemembered setup before j m → IsRemembered setup (before ++ row ∷ []) j (behind_event w e number moves j m)
remembered-event setup before row v w e a number moves j m place tells from to step told is =
    subst (IsRemembered setup (before ++ row ∷ []) j) (sym (behind-later w e number moves j m)) (record {
      all = is.all ++ fresh w e number moves j;
      are = notes-more setup j [] before row is.all (fresh w e number moves j) is.are at;
      notes = ap (λ (kept : List Note). notes_on kept (fresh w e number moves j)) is.notes ∙ notes-last is.all (fresh w e number moves j);
      started = start-on before row e j number m.started place tells is.started;
      planned = plan-on setup v w a before row e j number m.room m.planned step is.room place tells is.planned;
      room = is.room;
    })
  where
    fits : WorldInvariant setup v
    fits = behind-fits setup before v from

    are : AreNotesOf v w (length before + 2) j e (fresh w e number moves j)
    are = subst (λ (n : ℕ). AreNotesOf v w n j e (fresh w e number moves j)) (sym place) (fresh-notes setup v w e a number moves j fits step (has-started setup v w e a fits step) told)

    at : AreNotesAt setup j before row (fresh w e number moves j)
    at = subst (λ (o : Option Event). MatchOption o (fresh w e number moves j ≡ []) (AreNotesBehind setup j before row (fresh w e number moves j))) (sym tells) (v, w, from, to, are)

-- behind a claim
pub remembered-claim : (setup : Setup) (before : List Row) (row : Row) (j : ℕ) (m : Remembered) → event_in row ≡ None → IsRemembered setup before j m → IsRemembered setup (before ++ row ∷ []) j m
remembered-claim setup before row j m none is = record {
  all = is.all ++ [];
  are = notes-more setup j [] before row is.all [] is.are
      (subst (λ (o : Option Event). MatchOption o (◌≡◌ {A = List Note} [] []) (AreNotesBehind setup j before row [])) (sym none) refl);
  notes = is.notes ∙ ap last_notes (sym (append-nil is.all));
  started = start-kept before row j m.started (λ told. absurd (cc (sym none ∙ told))) is.started;
  planned = plan-kept before row j m.planned (λ t told. absurd (cc (sym none ∙ told))) is.planned;
  room = is.room;
}

-- before any row
no-event : (number : ℕ) (e : Event) → IsEventAt [] number e → ⊥
no-event number e (row, at, tells) = let below = row-below [] number row at in absurd (omega (arith, below, at.place))

pub remembered-nothing : (setup : Setup) (j : ℕ) → IsRemembered setup [] j (nothing_yet setup.partitions)
remembered-nothing setup j = record {
  all = [];
  are = refl;
  notes = refl;
  started = λ n at. no-event n (Event.Start j) at;
  planned = λ n table at. no-event n (Event.Plan j table) at;
  room = refl;
}

-- ---- all nodes

pub remembered-each : (setup : Setup) (rows rows' : List Row) (i : ℕ) (f : ℕ → Remembered → Remembered) (memories : List Remembered)
    → ((j : ℕ) (m : Remembered) → IsRemembered setup rows j m → IsRemembered setup rows' j (f j m)) → AreRemembered setup rows i memories → AreRemembered setup rows' i (each_from i f memories)
remembered-each setup rows rows' i f [] one all = tt
remembered-each setup rows rows' i f (m ∷ memories) one (first, others) = (one i m first, remembered-each setup rows rows' (i + 1) f memories one others)

pub remembered-all : (setup : Setup) (rows rows' : List Row) (i : ℕ) (memories : List Remembered)
    → ((j : ℕ) (m : Remembered) → IsRemembered setup rows j m → IsRemembered setup rows' j m) → AreRemembered setup rows i memories → AreRemembered setup rows' i memories
remembered-all setup rows rows' i [] one all = tt
remembered-all setup rows rows' i (m ∷ memories) one (first, others) = (one i m first, remembered-all setup rows rows' (i + 1) memories one others)

-- one more node
pub remembered-push : (setup : Setup) (i : ℕ) (memories : List Remembered) → AreRemembered setup [] i memories → AreRemembered setup [] i (memories ++ nothing_yet setup.partitions ∷ [])
remembered-push setup i [] all = (remembered-nothing setup i, tt)
remembered-push setup i (first ∷ others) (head, all) = (head, remembered-push setup (i + 1) others all)

-- what is remembered of one of the nodes
pub remembered-at : (setup : Setup) (rows : List Row) (i j k : ℕ) (memories : List Remembered) (m : Remembered) → AreRemembered setup rows i memories → slice_get memories k ≡ Some m → i + k ≡ j
    → IsRemembered setup rows j m
remembered-at setup rows i j k [] m all is place = absurd (cc is)
remembered-at setup rows i j zero (first ∷ others) m (head, all) is place =
    let same : i ≡ j = omega (arith, place) in
    let one : first ≡ m = same_Some first m is in
    subst (λ x. IsRemembered setup rows j x) one (subst (λ x. IsRemembered setup rows x first) same head)
remembered-at setup rows i j (suc k) (first ∷ others) m (head, all) is place = remembered-at setup rows (i + 1) j k others m all is (omega (arith, place))

pub remembered-told : {B : Type 0} (setup : Setup) (rows : List Row) (j k : ℕ) (memories : List Remembered) (o : Option B) (now : B → Remembered) → option_map now o ≡ slice_get memories k
    → AreRemembered setup rows 1 memories → 1 + k ≡ j → IfSome o (λ m. IsRemembered setup rows j (now m))
remembered-told setup rows j k memories None now same all place = tt
remembered-told setup rows j k memories (Some b) now same all place = remembered-at setup rows 1 j k memories (now b) all (sym same) place
