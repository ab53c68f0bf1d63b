-- How long an actor's part of a history is, and that a log of as many entries that all stand in the history is that part.
use Rattle.std.proofs.Common.{◌≡◌, ◌≤◌, ◌<◌, ◌+◌, ◌-◌, ◌==◌, ◌⊎◌, inl, inr, ℕ, zero, suc, Bool, true, false, List, [], ◌∷◌, Some, All, length, get_or, cond, arith, refl, sym, ap, subst, ◌∙◌, slice_get, if◌then◌else◌}
use Rattle.std.proofs.lemmas.Bool.Decides.{nat_tests}
use Rattle.std.proofs.lemmas.List.Elements.{All-get_or}
use Rattle.std.proofs.lemmas.List.Sums.{sum_by-cons}
use Rattle.std.proofs.lemmas.Option.{slice_get_within, slice_get-get_or, get_or_from_slice_get}
use Rattle.bully_base.specs.Setup.{Setup}
use Rattle.bully_base.specs.declared.TheConstants.{NODES_MAX}
use Rattle.bully_watch.specs.declared.entry.Entry.{Entry}
use Rattle.bully_watch.specs.History.{IsHistory, part, part_from}
use Rattle.bully_world.specs.World.{World}
use Rattle.bully_watch.proofs.PartLemmas.{Stands, part_stands, actor_within}
use Rattle.bully_group.specs.Seat.{SeatState, IsSeat}
use Rattle.bully_group.specs.Finish.{HasPart, AllStand, entries_of}
use Rattle.bully_group.proofs.SeatLemmas.{le_cases}

-- an actor's part has all its entries
pub part_length : (at actor : ℕ) (entries : List Entry) → length (part_from at actor entries) ≡ entries_of actor entries
part_length at actor [] = refl
part_length at actor (e ∷ entries) = grind (arith, nat_tests, sum_by-cons (λ (x : Entry). cond (x.actor == actor) 1 0) e entries, part_length (at + 1) actor entries)

-- the indices of a log rise, and each of its entries stands at its index, counted from the first number, and is the actor's
record IsOfPart (at actor : ℕ) (entries : List Entry) (log : List (ℕ × Entry)) : Type 0 where
  stand : (i : ℕ) (p : ℕ × Entry) → slice_get log i ≡ Some p → Stands at actor entries p.0 p.1
  rising : (i j : ℕ) (p q : ℕ × Entry) → i < j → slice_get log i ≡ Some p → slice_get log j ≡ Some q → p.0 < q.0

rest_of_part : (at actor : ℕ) (entries : List Entry) (p : ℕ × Entry) (log : List (ℕ × Entry)) → IsOfPart at actor entries (p ∷ log) → IsOfPart at actor entries log
rest_of_part at actor entries p log all = record {
  stand = λ i q is. all.stand (suc i) q is;
  rising = λ i j q r below first later. all.rising (suc i) (suc j) q r (omega (arith, below)) first later;
}

-- what stands behind the first entry stands in the others
stands_behind : (at actor : ℕ) (x : Entry) (entries : List Entry) (index : ℕ) (e : Entry) → at < index → Stands at actor (x ∷ entries) index e → Stands (at + 1) actor entries index e
stands_behind at actor x entries index e above s = record {
  after = omega (arith, above);
  there =
      let next : index - at ≡ suc (index - (at + 1)) = omega (arith, above) in
      subst (λ (k : ℕ). slice_get (x ∷ entries) k ≡ Some e) next s.there;
  own = s.own;
}

all_behind : (at actor : ℕ) (x : Entry) (entries : List Entry) (log : List (ℕ × Entry)) → ((i : ℕ) (p : ℕ × Entry) → slice_get log i ≡ Some p → at < p.0) → IsOfPart at actor (x ∷ entries) log → IsOfPart (at + 1) actor entries log
all_behind at actor x entries log above all = record {
  stand = λ i p is. stands_behind at actor x entries p.0 p.1 (above i p is) (all.stand i p is);
  rising = all.rising;
}

-- the indices behind a log's first one are above it
above_first : (at actor : ℕ) (entries : List Entry) (p : ℕ × Entry) (log : List (ℕ × Entry)) → IsOfPart at actor entries (p ∷ log) → (i : ℕ) (q : ℕ × Entry) → slice_get log i ≡ Some q → p.0 < q.0
above_first at actor entries p log all i q is = all.rising 0 (suc i) p q (omega arith) refl is

-- so all are, where the first one is
all_above : (at actor : ℕ) (entries : List Entry) (p : ℕ × Entry) (log : List (ℕ × Entry)) → IsOfPart at actor entries (p ∷ log) → at < p.0 → (i : ℕ) (q : ℕ × Entry) → slice_get (p ∷ log) i ≡ Some q → at < q.0
all_above at actor entries p log all above zero q is = grind (arith, is, above)
all_above at actor entries p log all above (suc i) q is = omega (arith, above, above_first at actor entries p log all i q is)

-- what stands at the first number is the first entry
first_stands : (at actor : ℕ) (x : Entry) (entries : List Entry) (p : ℕ × Entry) → at ≡ p.0 → Stands at actor (x ∷ entries) p.0 p.1 → (at, x) ≡ p
first_stands at actor x entries p here s =
    let none : p.0 - at ≡ 0 = omega (arith, here) in
    let is : slice_get (x ∷ entries) 0 ≡ Some p.1 = subst (λ (k : ℕ). slice_get (x ∷ entries) k ≡ Some p.1) none s.there in
    grind (arith, is, here)

-- it has no more entries than the part, and is the part where it has as many
abbrev Fits : List (ℕ × Entry) → List (ℕ × Entry) → Type 0
Fits log whole = (length log ≤ length whole) × (length log ≡ length whole → log ≡ whole)

fits_part : (at actor : ℕ) (entries : List Entry) (log : List (ℕ × Entry)) → IsOfPart at actor entries log → Fits log (part_from at actor entries)
fits_part at actor [] [] all = (omega arith, λ same. refl)
fits_part at actor [] (p ∷ log) all = let is = (all.stand 0 p refl).there in absurd (grind (arith, is))
fits_part at actor (x ∷ entries) [] all = (omega arith, λ same. none_left (part_from at actor (x ∷ entries)) same)
  where
    none_left : (whole : List (ℕ × Entry)) → 0 ≡ length whole → [] ≡ whole
    none_left [] same = refl
    none_left (q ∷ whole) same = absurd (omega (arith, same))
fits_part at actor (x ∷ entries) (p ∷ log) all = by_actor (x.actor == actor) refl (λ rest of. fits_part (at + 1) actor entries rest of)
  where
    first : Stands at actor (x ∷ entries) p.0 p.1
    first = all.stand 0 p refl

    by_index : (at < p.0) ⊎ (at ≡ p.0) → ((rest : List (ℕ × Entry)) → IsOfPart (at + 1) actor entries rest → Fits rest (part_from (at + 1) actor entries)) → Fits (p ∷ log) ((at, x) ∷ part_from (at + 1) actor entries)
    by_index (inl above) rest =
        let shorter = (rest (p ∷ log) (all_behind at actor x entries (p ∷ log) (all_above at actor (x ∷ entries) p log all above) all)).0 in
        (omega (arith, shorter), λ same. absurd (omega (arith, shorter, same)))
    by_index (inr here) rest =
        let same_first = first_stands at actor x entries p here first in
        let fits = rest log (all_behind at actor x entries log (λ i q is. omega (arith, here, above_first at actor (x ∷ entries) p log all i q is)) (rest_of_part at actor (x ∷ entries) p log all)) in
        (omega (arith, fits.0), λ same. grind (arith, same_first, fits.1 (omega (arith, same))))

    by_actor : (b : Bool) → (x.actor == actor) ≡ b → ((rest : List (ℕ × Entry)) → IsOfPart (at + 1) actor entries rest → Fits rest (part_from (at + 1) actor entries)) → Fits (p ∷ log) (if b then (at, x) ∷ part_from (at + 1) actor entries else part_from (at + 1) actor entries)
    by_actor true own rest = by_index (le_cases at p.0 first.after) rest
    by_actor false own rest = by_place (le_cases at p.0 first.after)
      where
        by_place : (at < p.0) ⊎ (at ≡ p.0) → Fits (p ∷ log) (part_from (at + 1) actor entries)
        by_place (inl above) = rest (p ∷ log) (all_behind at actor x entries (p ∷ log) (all_above at actor (x ∷ entries) p log all above) all)
        by_place (inr here) =
            let same_first = first_stands at actor x entries p here first in
            let same_actor = first.own in
            absurd (grind (arith, nat_tests, own, same_first, same_actor))

stand_from : (history : List Entry) (s : SeatState) → IsSeat s → AllStand history s.log → IsOfPart 0 s.actor history s.log
stand_from history s kept all = record {
  stand = λ i p is.
      let at : slice_get history (get_or s.log i p).0 ≡ Some (get_or s.log i p).1 = All-get_or (λ (q : ℕ × Entry). slice_get history q.0 ≡ Some q.1) s.log i p (slice_get_within s.log i p is) all in
      let same : get_or s.log i p ≡ p = get_or_from_slice_get s.log i p p is in
      record {
        after = omega arith;
        there = let none : p.0 - 0 ≡ p.0 = omega arith in rw none (subst (λ (q : ℕ × Entry). slice_get history q.0 ≡ Some q.1) same at);
        own = kept.own i p is;
      };
  rising = kept.rising;
}

-- a seat's log has its part, where all stand and there are as many
pub has_part_if : (history : List Entry) (s : SeatState) → IsSeat s → AllStand history s.log → length s.log ≡ entries_of s.actor history → HasPart history s
has_part_if history s kept all count = (fits_part 0 s.actor history s.log (stand_from history s kept all)).1 (count ∙ sym (part_length 0 s.actor history))

-- and only there
pub stand_if_part : (history : List Entry) (s : SeatState) → HasPart history s → AllStand history s.log × (length s.log ≡ entries_of s.actor history)
stand_if_part history s has = (
  rw has λ i d within.
      let p = get_or (part s.actor history) i d in
      let stands = part_stands 0 s.actor history i p.0 p.1 (slice_get-get_or (part s.actor history) i d within) in
      let none : p.0 - 0 ≡ p.0 = omega arith in
      subst (λ (k : ℕ). slice_get history k ≡ Some p.1) none stands.there,
  ap length has ∙ part_length 0 s.actor history,
)

-- no actor of a history is above the last node of any group
pub actors_at_most : (setup : Setup) (history : List Entry) (w : World) → IsHistory setup history w → setup.nodes ≤ NODES_MAX → All (λ (e : Entry). e.actor ≤ NODES_MAX) history
actors_at_most setup history w lawful most i d within =
    let one = actor_within setup history w i (get_or history i d) lawful (slice_get-get_or history i d within) in
    omega (arith, most, one)
