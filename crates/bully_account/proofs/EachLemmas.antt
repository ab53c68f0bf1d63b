-- What is remembered of all nodes, where one of them has another row.
use Rattle.std.proofs.Common.{◌≡◌, ◌≢◌, ◌∙◌, ℕ, zero, suc, ◌+◌, ◌<◌, ◌≤◌, ◌==◌, ◌&&◌, Bool, true, false, List, [], ◌∷◌, Option, Some, None, length, get_or, set, refl, sym, ap, arith, if◌then◌else◌}
use Rattle.std.proofs.lemmas.Bool.Decides.{nat_tests}
use Rattle.bully_calls.specs.declared.call.Call.{Call}
use Rattle.bully_calls.specs.declared.event.Event.{Event}
use Rattle.bully_calls.specs.Events.{node_of}
use Rattle.bully_world.specs.Place.{call_at}
use Rattle.bully_world.specs.State.{is_halt}
use Rattle.bully_world.specs.World.{World}
use Rattle.bully_account.specs.declared.memory.Note.{Note}
use Rattle.bully_account.specs.declared.memory.What.{What}
use Rattle.bully_account.specs.declared.moving.Moves.{Moves}
use Rattle.bully_account.specs.Remembered.{Remembered, behind_event, each_from, moved_by, noted, own_note, what_with, with_halt, with_more, with_note, with_own, with_plan, with_start}

-- ---- steps of all

pub each-each : (i : ℕ) (f g : ℕ → Remembered → Remembered) (memories : List Remembered) → each_from i g (each_from i f memories) ≡ each_from i (λ j m. g j (f j m)) memories
each-each i f g [] = refl
each-each i f g (m ∷ memories) = ap (λ (others : List Remembered). g i (f i m) ∷ others) (each-each (i + 1) f g memories)

pub each-same : (i : ℕ) (f g : ℕ → Remembered → Remembered) (memories : List Remembered) → ((j : ℕ) (m : Remembered) → f j m ≡ g j m) → each_from i f memories ≡ each_from i g memories
each-same i f g [] same = refl
each-same i f g (m ∷ memories) same =
    ap (λ (x : Remembered). x ∷ each_from (i + 1) f memories) (same i m) ∙ ap (λ (others : List Remembered). g i m ∷ others) (each-same (i + 1) f g memories same)

-- nodes that stay as they are
pub each-stays : (i : ℕ) (f : ℕ → Remembered → Remembered) (memories : List Remembered) → ((j : ℕ) (m : Remembered) → f j m ≡ m) → each_from i f memories ≡ memories
each-stays i f [] stays = refl
each-stays i f (m ∷ memories) stays =
    ap (λ (x : Remembered). x ∷ each_from (i + 1) f memories) (stays i m) ∙ ap (λ (others : List Remembered). m ∷ others) (each-stays (i + 1) f memories stays)

-- all but one node stay as they are, which is before these
above-stays : (i j : ℕ) (f : ℕ → Remembered → Remembered) (memories : List Remembered) → ((n : ℕ) (x : Remembered) → n ≢ j → f n x ≡ x) → j < i → each_from i f memories ≡ memories
above-stays i j f [] stays before = refl
above-stays i j f (m ∷ memories) stays before =
    let apart : i ≢ j = omega (arith, before) in
    ap (λ (x : Remembered). x ∷ each_from (i + 1) f memories) (stays i m apart)
    ∙ ap (λ (others : List Remembered). m ∷ others) (above-stays (i + 1) j f memories stays (omega (arith, before)))

-- or behind them
pub past-stays : (i j : ℕ) (f : ℕ → Remembered → Remembered) (memories : List Remembered) → ((n : ℕ) (x : Remembered) → n ≢ j → f n x ≡ x) → i + length memories ≤ j → each_from i f memories ≡ memories
past-stays i j f [] stays behind = refl
past-stays i j f (m ∷ memories) stays behind =
    let apart : i ≢ j = omega (arith, behind) in
    ap (λ (x : Remembered). x ∷ each_from (i + 1) f memories) (stays i m apart)
    ∙ ap (λ (others : List Remembered). m ∷ others) (past-stays (i + 1) j f memories stays (omega (arith, behind)))

-- one of them is written anew
pub set-each : (i k j : ℕ) (f : ℕ → Remembered → Remembered) (memories : List Remembered) (m m' : Remembered) → ((n : ℕ) (x : Remembered) → n ≢ j → f n x ≡ x) → i + k ≡ j
    → m ≡ get_or memories k m → m' ≡ f j m → set memories k m' ≡ each_from i f memories
set-each i k j f [] m m' stays place value here = refl
set-each i zero j f (first ∷ others) m m' stays place value here =
    let at : j ≡ i = omega (arith, place) in
    ap (λ (x : Remembered). x ∷ others) (here ∙ ap (f j) value ∙ ap (λ (n : ℕ). f n first) at)
    ∙ ap (λ (more : List Remembered). f i first ∷ more) (sym (above-stays (i + 1) j f others stays (omega (arith, place))))
set-each i (suc k) j f (first ∷ others) m m' stays place value here =
    let apart : i ≢ j = omega (arith, place) in
    let next : (i + 1) + k ≡ j = omega (arith, place) in
    ap (λ (x : Remembered). x ∷ set others k m') (sym (stays i first apart))
    ∙ ap (λ (more : List Remembered). f i first ∷ more) (set-each (i + 1) k j f others m m' stays next value here)

-- ---- steps of one node

other-test : (n i : ℕ) → n ≢ i → (n == i) ≡ false
other-test n i apart = grind (arith, nat_tests, apart)

own-test : (i : ℕ) → (i == i) ≡ true
own-test i = grind (arith, nat_tests)

pub note-other : (i : ℕ) (note : Note) (n : ℕ) (m : Remembered) → n ≢ i → with_note i note n m ≡ m
note-other i note n m apart = ap (λ (b : Bool). if b then record m { notes = noted m.notes note } else m) (other-test n i apart)

pub note-own : (i : ℕ) (note : Note) (m : Remembered) → with_note i note i m ≡ record m { notes = noted m.notes note }
note-own i note m = ap (λ (b : Bool). if b then record m { notes = noted m.notes note } else m) (own-test i)

pub start-other : (i row n : ℕ) (m : Remembered) → n ≢ i → with_start i row n m ≡ m
start-other i row n m apart = ap (λ (b : Bool). if b then record m { started = Some row } else m) (other-test n i apart)

pub start-own : (i row : ℕ) (m : Remembered) → with_start i row i m ≡ record m { started = Some row }
start-own i row m = ap (λ (b : Bool). if b then record m { started = Some row } else m) (own-test i)

pub plan-other : (i : ℕ) (table : List ℕ) (n : ℕ) (m : Remembered) → n ≢ i → with_plan i table n m ≡ m
plan-other i table n m apart = ap (λ (b : Bool). if b && (length table == m.room) then record m { planned = Some table } else m) (other-test n i apart)

pub plan-own : (i : ℕ) (table : List ℕ) (m : Remembered) → with_plan i table i m ≡ (if length table == m.room then record m { planned = Some table } else m)
plan-own i table m = ap (λ (b : Bool). if b && (length table == m.room) then record m { planned = Some table } else m) (own-test i)

-- ---- calls that ran

pub halt-none : (caller row : ℕ) (given : Option Call) (moved : Bool) (memories : List Remembered) → ((call : Call) → given ≡ Some call → ⊥)
    → memories ≡ each_from 1 (with_halt caller given row moved) memories
halt-none caller row None moved memories none = sym (each-stays 1 (with_halt caller None row moved) memories (λ j m. refl))
halt-none caller row (Some call) moved memories none = absurd (none call refl)

pub halt-other : (caller row : ℕ) (given : Option Call) (call : Call) (moved : Bool) (memories : List Remembered) → given ≡ Some call → is_halt call.kind ≡ false
    → memories ≡ each_from 1 (with_halt caller given row moved) memories
halt-other caller row given call moved memories is none =
    sym (ap (λ (c : Option Call). each_from 1 (with_halt caller c row moved) memories) is
    ∙ each-stays 1 (with_halt caller (Some call) row moved) memories
    (λ j m. ap (λ (b : Bool). if b then with_note call.callee (record { row = row; what = What.HaltedBy caller; moved = moved }) j m else m) none))

pub halt-noted : (caller row : ℕ) (given : Option Call) (call : Call) (moved : Bool) (memories memories' : List Remembered) → given ≡ Some call → is_halt call.kind ≡ true
    → memories' ≡ each_from 1 (with_note call.callee (record { row = row; what = What.HaltedBy caller; moved = moved })) memories
    → memories' ≡ each_from 1 (with_halt caller given row moved) memories
halt-noted caller row given call moved memories memories' is halts noted =
    noted
    ∙ each-same 1 (with_note call.callee (record { row = row; what = What.HaltedBy caller; moved = moved })) (with_halt caller (Some call) row moved) memories
    (λ j m. sym (ap (λ (b : Bool). if b then with_note call.callee (record { row = row; what = What.HaltedBy caller; moved = moved }) j m else m) halts))
    ∙ sym (ap (λ (c : Option Call). each_from 1 (with_halt caller c row moved) memories) is)

-- ---- an event

abbrev pub noting : ℕ → What → Bool → Note
noting row what moved = record { row = row; what = what; moved = moved }

-- its note
pub note-is : (w : World) (e : Event) (row i : ℕ) (moves : Moves) (call : Option Call) (what : What) (moved : Bool) → i ≡ node_of e → call ≡ call_at w i → what ≡ what_with e call
    → moved ≡ moved_by moves.own w i → noting row what moved ≡ own_note w e row moves
note-is w e row i moves call what moved same there says told =
    ap (λ (x : What). noting row x moved) (says ∙ ap (what_with e) (there ∙ ap (call_at w) same))
    ∙ ap (λ (b : Bool). noting row (what_with e (call_at w (node_of e))) b) (told ∙ ap (moved_by moves.own w) same)

-- and what it changes beside that
pub behind-both : (w : World) (e : Event) (row i : ℕ) (moves : Moves) (note : Note) (old mid new : List Remembered) → i ≡ node_of e → note ≡ own_note w e row moves
    → mid ≡ each_from 1 (with_note i note) old → new ≡ each_from 1 (with_more w e row moves.callee) mid → new ≡ each_from 1 (behind_event w e row moves) old
behind-both w e row i moves note old mid new same told first more =
    more
    ∙ ap (each_from 1 (with_more w e row moves.callee)) (first ∙ ap (λ (n : ℕ). each_from 1 (with_note n note) old) same ∙ ap (λ (x : Note). each_from 1 (with_note (node_of e) x) old) told)
    ∙ each-each 1 (with_own w e row moves) (with_more w e row moves.callee) old

-- an event that is no start, no run and no plan changes nothing beside
pub more-none : (w : World) (e : Event) (row : ℕ) (cuts : Bool) (memories : List Remembered) → ((i : ℕ) → e ≡ Event.Start i → ⊥) → ((i : ℕ) → e ≡ Event.Run i → ⊥)
    → ((i : ℕ) (table : List ℕ) → e ≡ Event.Plan i table → ⊥) → memories ≡ each_from 1 (with_more w e row cuts) memories
more-none w e row cuts memories start run plan = sym (each-stays 1 (with_more w e row cuts) memories (λ j m. by_event e start run plan j m))
  where
    by_event : (e : Event) → ((i : ℕ) → e ≡ Event.Start i → ⊥) → ((i : ℕ) → e ≡ Event.Run i → ⊥) → ((i : ℕ) (table : List ℕ) → e ≡ Event.Plan i table → ⊥)
        → (j : ℕ) (m : Remembered) → with_more w e row cuts j m ≡ m
    by_event (Event.Recover i) start run plan j m = refl
    by_event (Event.Crash i) start run plan j m = refl
    by_event (Event.Check i) start run plan j m = refl
    by_event (Event.Timeout i) start run plan j m = refl
    by_event (Event.Start i) start run plan j m = absurd (start i refl)
    by_event (Event.Run i) start run plan j m = absurd (run i refl)
    by_event (Event.Lose i) start run plan j m = refl
    by_event (Event.Return i) start run plan j m = refl
    by_event (Event.Drop i) start run plan j m = refl
    by_event (Event.Move i) start run plan j m = refl
    by_event (Event.Plan i table) start run plan j m = absurd (plan i table refl)
