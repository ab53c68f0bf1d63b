-- What one more row makes of what is remembered of a node.
use Rattle.std.proofs.Common.{◌≡◌, ◌≢◌, ◌↔◌, ◌∙◌, ℕ, ◌+◌, ◌-◌, ◌==◌, ◌&&◌, ◌++◌, Bool, true, false, List, [], ◌∷◌, All, Option, Some, None, IsSome, length, drop, map, refl, sym, ap, subst, arith, append_assoc, append-nil, length-append, length-drop, if◌then◌else◌}
use Rattle.std.proofs.lemmas.Bool.Decides.{nat_tests}
use Rattle.std.proofs.lemmas.List.{drop-append-le, drop-drop}
use Rattle.std.proofs.lemmas.List.Elements.{All-append, All-cons, All-nil}
use Rattle.bully_base.specs.Setup.{Setup}
use Rattle.bully_calls.specs.declared.call.Answer.{Answer}
use Rattle.bully_calls.specs.declared.call.Call.{Call}
use Rattle.bully_calls.specs.declared.event.Event.{Event}
use Rattle.bully_calls.specs.Events.{node_of}
use Rattle.bully_rows.specs.declared.trace.Row.{Row}
use Rattle.bully_world.specs.NodeInvariant.{WorldInvariant}
use Rattle.bully_world.specs.Place.{call_at}
use Rattle.bully_world.specs.State.{is_halt}
use Rattle.bully_world.specs.Step.{Step}
use Rattle.bully_world.specs.World.{World, point}
use Rattle.bully_account.specs.declared.TheConstants.{ROWS_KEPT}
use Rattle.bully_account.specs.declared.memory.Note.{Note}
use Rattle.bully_account.specs.declared.memory.What.{What}
use Rattle.bully_account.specs.declared.moving.Moves.{Moves}
use Rattle.bully_account.specs.Moving.{cuts_off, moves_in, own_move}
use Rattle.bully_account.specs.Remembered.{Remembered, behind_event, last_notes, moved_by, noted, own_note, started_or, what_with, with_halt, with_own, with_plan, with_start}
use Rattle.bully_account.specs.RowsOf.{AreNotesAt, AreNotesFrom, AreNotesOf, IsNoteOf, halt_deed, halted_by, own_deed, started_as, what_in}
use Rattle.bully_account.proofs.MovingLemmas.{call-behind, halt-moved, own-moved}
use Rattle.bully_account.proofs.StepLemmas.{HasStarted}

-- ---- the last of more and more notes

-- the last of the last ones, and one more
noted-last : (all : List Note) (note : Note) → noted (last_notes all) note ≡ last_notes (all ++ note ∷ [])
noted-last all note =
    let past = length all - ROWS_KEPT in
    let more = all ++ note ∷ [] in
    let parted : drop past all ++ note ∷ [] ≡ drop past more = sym (drop-append-le past all (note ∷ []) (omega arith)) in
    let size : length more ≡ length all + 1 = length-append all (note ∷ []) in
    let left : length (drop past more) ≡ length more - past = length-drop past more in
    let place : past + (length (drop past more) - ROWS_KEPT) ≡ length more - ROWS_KEPT = omega (arith, size, left) in
    ap last_notes parted ∙ drop-drop (length (drop past more) - ROWS_KEPT) past more ∙ ap (λ (n : ℕ). drop n more) place

-- several notes, one by one
abbrev pub notes_on : List Note → List Note → List Note
notes_on kept [] = kept
notes_on kept (note ∷ notes) = notes_on (noted kept note) notes

notes-both : (kept here more : List Note) → notes_on (notes_on kept here) more ≡ notes_on kept (here ++ more)
notes-both kept [] more = refl
notes-both kept (note ∷ here) more = notes-both (noted kept note) here more

pub notes-last : (all here : List Note) → notes_on (last_notes all) here ≡ last_notes (all ++ here)
notes-last all [] = ap last_notes (sym (append-nil all))
notes-last all (note ∷ here) =
    ap (λ (kept : List Note). notes_on kept here) (noted-last all note) ∙ notes-last (all ++ note ∷ []) here ∙ ap last_notes (append_assoc all (note ∷ []) here)

-- ---- the notes of an event

abbrev own_notes : World → Event → ℕ → Moves → ℕ → List Note
own_notes w e row moves j = if j == node_of e then own_note w e row moves ∷ [] else []

abbrev halt_note : ℕ → ℕ → Bool → Note
halt_note caller row moved = record { row = row; what = What.HaltedBy caller; moved = moved }

abbrev notes_by : ℕ → Option Call → ℕ → Bool → ℕ → List Note
notes_by caller None row moved j = []
notes_by caller (Some call) row moved j = if is_halt call.kind && (j == call.callee) then halt_note caller row moved ∷ [] else []

abbrev halt_notes : World → Event → ℕ → Moves → ℕ → List Note
halt_notes w (Event.Run i) row moves j = notes_by i (call_at w i) row moves.callee j
halt_notes w e row moves j = []

abbrev pub fresh : World → Event → ℕ → Moves → ℕ → List Note
fresh w e row moves j = own_notes w e row moves j ++ halt_notes w e row moves j

-- what stays of what is remembered, and the notes
own-kept : (w : World) (e : Event) (row : ℕ) (moves : Moves) (j : ℕ) (m : Remembered) → with_own w e row moves j m ≡ record m { notes = notes_on m.notes (own_notes w e row moves j) }
own-kept w e row moves j m = by_test (j == node_of e)
  where
    by_test : (b : Bool) → (if b then record m { notes = noted m.notes (own_note w e row moves) } else m) ≡ record m { notes = notes_on m.notes (if b then own_note w e row moves ∷ [] else []) }
    by_test true = refl
    by_test false = refl

halt-kept : (caller row : ℕ) (call : Option Call) (moved : Bool) (j : ℕ) (m : Remembered) → with_halt caller call row moved j m ≡ record m { notes = notes_on m.notes (notes_by caller call row moved j) }
halt-kept caller row None moved j m = refl
halt-kept caller row (Some call) moved j m = by_tests (is_halt call.kind) (j == call.callee)
  where
    by_tests : (a b : Bool) → (if a then (if b then record m { notes = noted m.notes (halt_note caller row moved) } else m) else m)
        ≡ record m { notes = notes_on m.notes (if a && b then halt_note caller row moved ∷ [] else []) }
    by_tests true true = refl
    by_tests true false = refl
    by_tests false b = refl

abbrev pub started_on : Event → ℕ → ℕ → Option ℕ → Option ℕ
started_on (Event.Start i) row j started = if j == i then Some row else started
started_on e row j started = started

abbrev pub planned_on : Event → ℕ → ℕ → Option (List ℕ) → Option (List ℕ)
planned_on (Event.Plan i table) room j planned = if (j == i) && (length table == room) then Some table else planned
planned_on e room j planned = planned

abbrev pub later : World → Event → ℕ → Moves → ℕ → Remembered → Remembered
later w e row moves j m = record {
  notes = notes_on m.notes (fresh w e row moves j);
  started = started_on e row j m.started;
  planned = planned_on e m.room j m.planned;
  room = m.room;
}

-- notes alone
plain-later : (w : World) (e : Event) (row : ℕ) (moves : Moves) (j : ℕ) (m : Remembered) → with_own w e row moves j m ≡ record m { notes = notes_on m.notes (own_notes w e row moves j ++ []) }
plain-later w e row moves j m = own-kept w e row moves j m ∙ ap (λ (here : List Note). record m { notes = notes_on m.notes here }) (sym (append-nil (own_notes w e row moves j)))

pub behind-later : (w : World) (e : Event) (row : ℕ) (moves : Moves) (j : ℕ) (m : Remembered) → behind_event w e row moves j m ≡ later w e row moves j m
behind-later w (Event.Recover i) row moves j m = plain-later w (Event.Recover i) row moves j m
behind-later w (Event.Crash i) row moves j m = plain-later w (Event.Crash i) row moves j m
behind-later w (Event.Check i) row moves j m = plain-later w (Event.Check i) row moves j m
behind-later w (Event.Timeout i) row moves j m = plain-later w (Event.Timeout i) row moves j m
behind-later w (Event.Start i) row moves j m =
    ap (with_start i row j) (plain-later w (Event.Start i) row moves j m) ∙ by_test (j == i)
  where
    by_test : (b : Bool) → (if b then record m { notes = notes_on m.notes (own_notes w (Event.Start i) row moves j ++ []); started = Some row } else record m { notes = notes_on m.notes (own_notes w (Event.Start i) row moves j ++ []) })
        ≡ record m { notes = notes_on m.notes (own_notes w (Event.Start i) row moves j ++ []); started = if b then Some row else m.started }
    by_test true = refl
    by_test false = refl
behind-later w (Event.Run i) row moves j m =
    ap (with_halt i (call_at w i) row moves.callee j) (own-kept w (Event.Run i) row moves j m)
    ∙ halt-kept i row (call_at w i) moves.callee j (record m { notes = notes_on m.notes (own_notes w (Event.Run i) row moves j) })
    ∙ ap (λ (notes : List Note). record m { notes = notes }) (notes-both m.notes (own_notes w (Event.Run i) row moves j) (notes_by i (call_at w i) row moves.callee j))
behind-later w (Event.Lose i) row moves j m = plain-later w (Event.Lose i) row moves j m
behind-later w (Event.Return i) row moves j m = plain-later w (Event.Return i) row moves j m
behind-later w (Event.Drop i) row moves j m = plain-later w (Event.Drop i) row moves j m
behind-later w (Event.Move i) row moves j m = plain-later w (Event.Move i) row moves j m
behind-later w (Event.Plan i table) row moves j m =
    ap (with_plan i table j) (plain-later w (Event.Plan i table) row moves j m) ∙ by_test ((j == i) && (length table == m.room))
  where
    by_test : (b : Bool)
        → (if b then record m { notes = notes_on m.notes (own_notes w (Event.Plan i table) row moves j ++ []); planned = Some table } else record m { notes = notes_on m.notes (own_notes w (Event.Plan i table) row moves j ++ []) })
        ≡ record m { notes = notes_on m.notes (own_notes w (Event.Plan i table) row moves j ++ []); planned = if b then Some table else m.planned }
    by_test true = refl
    by_test false = refl

-- ---- what they say

what-own : (w : World) (e : Event) (row : ℕ) (moves : Moves) (j : ℕ) → HasStarted w e → map what_in (own_notes w e row moves j) ≡ (if j == node_of e then own_deed w e else [])
what-own w e row moves j started = by_test (j == node_of e)
  where
    by_call : (call : Option Call) (i : ℕ) → IsSome call → started_or call ∷ [] ≡ started_as call
    by_call None i is = absurd (cc is)
    by_call (Some call) i is = refl

    says : (e : Event) → HasStarted w e → what_with e (call_at w (node_of e)) ∷ [] ≡ own_deed w e
    says (Event.Recover i) is = refl
    says (Event.Crash i) is = refl
    says (Event.Check i) is = refl
    says (Event.Timeout i) is = refl
    says (Event.Start i) is = by_call (call_at w i) i is
    says (Event.Run i) is = refl
    says (Event.Lose i) is = refl
    says (Event.Return i) is = refl
    says (Event.Drop i) is = refl
    says (Event.Move i) is = refl
    says (Event.Plan i table) is = refl

    by_test : (b : Bool) → map what_in (if b then own_note w e row moves ∷ [] else []) ≡ (if b then own_deed w e else [])
    by_test true = says e started
    by_test false = refl

what-by : (caller row : ℕ) (call : Option Call) (moved : Bool) (j : ℕ) → map what_in (notes_by caller call row moved j) ≡ halted_by j caller call
what-by caller row None moved j = refl
what-by caller row (Some call) moved j = by_test (is_halt call.kind && (j == call.callee))
  where
    by_test : (b : Bool) → map what_in (if b then halt_note caller row moved ∷ [] else []) ≡ (if b then What.HaltedBy caller ∷ [] else [])
    by_test true = refl
    by_test false = refl

what-halt : (w : World) (e : Event) (row : ℕ) (moves : Moves) (j : ℕ) → map what_in (halt_notes w e row moves j) ≡ halt_deed w j e
what-halt w (Event.Recover i) row moves j = refl
what-halt w (Event.Crash i) row moves j = refl
what-halt w (Event.Check i) row moves j = refl
what-halt w (Event.Timeout i) row moves j = refl
what-halt w (Event.Start i) row moves j = refl
what-halt w (Event.Run i) row moves j = what-by i row (call_at w i) moves.callee j
what-halt w (Event.Lose i) row moves j = refl
what-halt w (Event.Return i) row moves j = refl
what-halt w (Event.Drop i) row moves j = refl
what-halt w (Event.Move i) row moves j = refl
what-halt w (Event.Plan i table) row moves j = refl

map-append : (xs ys : List Note) → map what_in (xs ++ ys) ≡ map what_in xs ++ map what_in ys
map-append [] ys = refl
map-append (x ∷ xs) ys = ap (λ (more : List What). x.what ∷ more) (map-append xs ys)

-- ---- whether the node's point is another one

alone : (P : Note → Type 0) (note : Note) → P note → All P (note ∷ [])
alone P note is = All-cons P note [] is (All-nil P)

each-own : (setup : Setup) (v w : World) (e : Event) (a : Answer) (row : ℕ) (moves : Moves) (j : ℕ) → WorldInvariant setup v → Step setup v e w a → moves ≡ moves_in v e
    → All (IsNoteOf v w row j) (own_notes w e row moves j)
each-own setup v w e a row moves j fits step told = by_test (j == node_of e) refl
  where
    by_test : (b : Bool) → (j == node_of e) ≡ b → All (IsNoteOf v w row j) (if b then own_note w e row moves ∷ [] else [])
    by_test true is =
        let at : j ≡ node_of e = grind (arith, nat_tests, is) in
        let own : moves.own ≡ own_move v e = ap (λ (x : Moves). x.own) told in
        let moved = own-moved setup v w e a fits step in
        alone (IsNoteOf v w row j) (own_note w e row moves) (record {
          row = refl;
          moved = subst (λ (n : ℕ). (moved_by moves.own w (node_of e) ≡ true) ↔ (point w n ≢ point v n)) (sym at)
              (subst (λ (o : Option Bool). (moved_by o w (node_of e) ≡ true) ↔ (point w (node_of e) ≢ point v (node_of e))) (sym own) moved);
        })
    by_test false is = All-nil (IsNoteOf v w row j)

each-halt : (setup : Setup) (v w : World) (e : Event) (a : Answer) (row : ℕ) (moves : Moves) (j : ℕ) → WorldInvariant setup v → Step setup v e w a → moves ≡ moves_in v e
    → All (IsNoteOf v w row j) (halt_notes w e row moves j)
each-halt setup v w (Event.Recover i) a row moves j fits step told = All-nil (IsNoteOf v w row j)
each-halt setup v w (Event.Crash i) a row moves j fits step told = All-nil (IsNoteOf v w row j)
each-halt setup v w (Event.Check i) a row moves j fits step told = All-nil (IsNoteOf v w row j)
each-halt setup v w (Event.Timeout i) a row moves j fits step told = All-nil (IsNoteOf v w row j)
each-halt setup v w (Event.Start i) a row moves j fits step told = All-nil (IsNoteOf v w row j)
each-halt setup v w (Event.Run i) a row moves j fits (c, at, sent, up, is, answered) told =
    subst (λ (call : Option Call). All (IsNoteOf v w row j) (notes_by i call row moves.callee j)) (sym (call-behind setup v w i c fits at up is))
    (by_tests (is_halt c.call.kind) (j == c.call.callee) refl refl)
  where
    by_tests : (h t : Bool) → is_halt c.call.kind ≡ h → (j == c.call.callee) ≡ t → All (IsNoteOf v w row j) (if h && t then halt_note i row moves.callee ∷ [] else [])
    by_tests true true halts here =
        let there : j ≡ c.call.callee = grind (arith, nat_tests, here) in
        let callee : moves.callee ≡ cuts_off v (Event.Run i) = ap (λ (x : Moves). x.callee) told in
        let moved = halt-moved setup v w i c fits at up is halts in
        alone (IsNoteOf v w row j) (halt_note i row moves.callee) (record {
          row = refl;
          moved = subst (λ (n : ℕ). (moves.callee ≡ true) ↔ (point w n ≢ point v n)) (sym there)
              (subst (λ (b : Bool). (b ≡ true) ↔ (point w c.call.callee ≢ point v c.call.callee)) (sym callee) moved);
        })
    by_tests true false halts here = All-nil (IsNoteOf v w row j)
    by_tests false t halts here = All-nil (IsNoteOf v w row j)
each-halt setup v w (Event.Lose i) a row moves j fits step told = All-nil (IsNoteOf v w row j)
each-halt setup v w (Event.Return i) a row moves j fits step told = All-nil (IsNoteOf v w row j)
each-halt setup v w (Event.Drop i) a row moves j fits step told = All-nil (IsNoteOf v w row j)
each-halt setup v w (Event.Move i) a row moves j fits step told = All-nil (IsNoteOf v w row j)
each-halt setup v w (Event.Plan i table) a row moves j fits step told = All-nil (IsNoteOf v w row j)

pub fresh-notes : (setup : Setup) (v w : World) (e : Event) (a : Answer) (row : ℕ) (moves : Moves) (j : ℕ) → WorldInvariant setup v → Step setup v e w a → HasStarted w e → moves ≡ moves_in v e
    → AreNotesOf v w row j e (fresh w e row moves j)
fresh-notes setup v w e a row moves j fits step started told = record {
  what = map-append (own_notes w e row moves j) (halt_notes w e row moves j)
      ∙ ap (λ (l : List What). l ++ map what_in (halt_notes w e row moves j)) (what-own w e row moves j started)
      ∙ ap (λ (l : List What). (if j == node_of e then own_deed w e else []) ++ l) (what-halt w e row moves j);
  each = All-append (IsNoteOf v w row j) (own_notes w e row moves j) (halt_notes w e row moves j)
      (each-own setup v w e a row moves j fits step told) (each-halt setup v w e a row moves j fits step told);
}

-- ---- the notes of all rows

pub notes-more : (setup : Setup) (i : ℕ) (before rows : List Row) (row : Row) (notes here : List Note) → AreNotesFrom setup i before rows notes → AreNotesAt setup i (before ++ rows) row here
    → AreNotesFrom setup i before (rows ++ row ∷ []) (notes ++ here)
notes-more setup i before [] row notes here none at =
    let first = subst (λ (l : List Row). AreNotesAt setup i l row here) (append-nil before) at in
    (here, [], ap (λ (l : List Note). l ++ here) none ∙ sym (append-nil here), first, refl)
notes-more setup i before (r ∷ rows) row notes here (own, others, same, first, more) at = (
  own,
  others ++ here,
  ap (λ (l : List Note). l ++ here) same ∙ append_assoc own others here,
  first,
  notes-more setup i (before ++ r ∷ []) rows row others here more (subst (λ (l : List Row). AreNotesAt setup i l row here) (sym (append_assoc before (r ∷ []) rows)) at),
)
