-- Bytes that are given one by one, and what is then left.
use Rattle.std.proofs.Common.{◌≡◌, ◌∙◌, ℕ, zero, suc, ◌+◌, ◌<◌, ◌≤◌, ◌++◌, Bool, true, false, List, [], ◌∷◌, Option, Some, None, length, take, drop, get_or, arith, refl, sym, ap, subst, if◌then◌else◌}
use Rattle.std.proofs.lemmas.List.{append_assoc, drop_all, drop_more, length-take-le, take_more}
use Rattle.std.specs.Option.{option_map}
use Rattle.std.specs.Io.KnownBytes.{Consumes, IsAtEnd}
use Rattle.bully_text.specs.Bounded.{Gives, bounded_from, count_after, place_after}
use Rattle.bully_text.specs.declared.bounded.Place.{Place}
use Rattle.bully_text.specs.declared.bounded.Taken.{Taken}

-- what is given from a byte on, where its row has so many bytes behind it
abbrev given_with : Place → ℕ → List ℕ → Option ℕ → List ℕ
given_with place byte rest now = elim now [
  | None ↦ []
  | Some more ↦ byte ∷ bounded_from (place_after place byte) more rest
]

pub bounded-more : (place : Place) (count byte more : ℕ) (rest : List ℕ) → count_after place count byte ≡ Some more
    → bounded_from place count (byte ∷ rest) ≡ byte ∷ bounded_from (place_after place byte) more rest
unfolding bounded_from
bounded-more place count byte more rest e = ap (given_with place byte rest) e

bounded-cut : (place : Place) (count byte : ℕ) (rest : List ℕ) → count_after place count byte ≡ None → bounded_from place count (byte ∷ rest) ≡ []
unfolding bounded_from
bounded-cut place count byte rest e = ap (given_with place byte rest) e

bounded-end : (place : Place) (count : ℕ) → bounded_from place count [] ≡ []
unfolding bounded_from
bounded-end place count = refl

-- the first i bytes are given, and one then stands there
abbrev pub HasGiven : Place → ℕ → List ℕ → ℕ → Place → ℕ → Type 0
HasGiven from before given i place count =
    (rest : List ℕ) → bounded_from from before (given ++ rest) ≡ take i given ++ bounded_from place count (drop i given ++ rest)

-- one more byte
pub each-more : (from place behind : Place) (before count more i : ℕ) (given : List ℕ) → i < length given → count_after place count (get_or given i 0) ≡ Some more
    → behind ≡ place_after place (get_or given i 0) → HasGiven from before given i place count → HasGiven from before given (i + 1) behind more
each-more from place behind before count more i given lt next at so_far rest =
    let left : Place → List ℕ = λ p. bounded_from p more (drop (i + 1) given ++ rest) in
    so_far rest
    ∙ ap (λ l. take i given ++ bounded_from place count (l ++ rest)) (drop_more given i 0 lt)
    ∙ ap (λ l. take i given ++ l) (bounded-more place count (get_or given i 0) more (drop (i + 1) given ++ rest) next)
    ∙ ap (λ p. take i given ++ (get_or given i 0 ∷ left p)) (sym at)
    ∙ sym (append_assoc (take i given) (get_or given i 0 ∷ []) (left behind))
    ∙ ap (λ l. l ++ left behind) (sym (take_more given i 0 lt))

-- none more, as its row has more than it may
pub each-cut : (from place : Place) (before count i : ℕ) (given rest : List ℕ) → i < length given → count_after place count (get_or given i 0) ≡ None
    → HasGiven from before given i place count → bounded_from from before (given ++ rest) ≡ take i given ++ []
each-cut from place before count i given rest lt next so_far =
    so_far rest
    ∙ ap (λ l. take i given ++ bounded_from place count (l ++ rest)) (drop_more given i 0 lt)
    ∙ ap (λ l. take i given ++ l) (bounded-cut place count (get_or given i 0) (drop (i + 1) given ++ rest) next)

-- all of them
pub each-all : (from place : Place) (before count i : ℕ) (given : List ℕ) → i ≤ length given → length given ≤ i → HasGiven from before given i place count
    → (rest : List ℕ) → bounded_from from before (given ++ rest) ≡ take (length given) given ++ bounded_from place count rest
each-all from place before count i given within all so_far rest =
    let e : i ≡ length given = omega (arith, within, all) in
    so_far rest
    ∙ ap (λ l. take i given ++ bounded_from place count (l ++ rest)) (drop_all i given all)
    ∙ ap (λ n. take n given ++ bounded_from place count rest) e

-- what is left behind a read, of what is left underneath
abbrev pub left_in : Bool → Place → ℕ → Option (List ℕ) → Option (List ℕ)
left_in cut place count known = if cut then Some [] else option_map (bounded_from place count) known

-- so many of the bytes that were read underneath are given
pub given-Consumes : (from place : Place) (before count n : ℕ) (given : List ℕ) (cut : Bool) (old new : Option (List ℕ)) → Consumes old new given
    → ((rest : List ℕ) → bounded_from from before (given ++ rest) ≡ take n given ++ (if cut then [] else bounded_from place count rest))
    → Consumes (option_map (bounded_from from before) old) (left_in cut place count new) (take n given)
given-Consumes from place before count n given cut None new read left = tt
given-Consumes from place before count n given cut (Some xs) None read left = absurd read
given-Consumes from place before count n given true (Some xs) (Some ys) read left = ap (bounded_from from before) read ∙ left ys
given-Consumes from place before count n given false (Some xs) (Some ys) read left = ap (bounded_from from before) read ∙ left ys

-- where nothing is left underneath, or the text is cut, nothing is left
pub given-end : (place : Place) (count : ℕ) (cut : Bool) (new : Option (List ℕ)) → (cut ≡ false → IsAtEnd new) → IsAtEnd (left_in cut place count new)
given-end place count true new end = refl
given-end place count false None end = tt
given-end place count false (Some ys) end = ap (bounded_from place count) (end refl) ∙ bounded-end place count

-- the first m of the first n
take-within : (m n : ℕ) (bytes : List ℕ) → m ≤ n → take m (take n bytes) ≡ take m bytes
take-within zero n bytes within = refl
take-within (suc m) zero bytes within = absurd (omega (arith, within))
take-within (suc m) (suc n) [] within = refl
take-within (suc m) (suc n) (byte ∷ bytes) within = ap (λ l. byte ∷ l) (take-within m n bytes (omega (arith, within)))

-- a read of what is left gives what is known of it, if the text wasn't cut before
pub bounded-read : (from : Place) (before n : ℕ) (buffer : List ℕ) (taken : Taken) (was_cut : Bool) (old new : Option (List ℕ)) → was_cut ≡ false
    → n ≤ length buffer → Gives from before (take n buffer) taken → Consumes old new (take n buffer) × (n ≡ 0 → 0 < length buffer → IsAtEnd new)
    → Consumes (left_in was_cut from before old) (left_in taken.is_cut taken.place taken.count new) (take taken.bytes buffer)
    × (taken.bytes ≡ 0 → 0 < length buffer → IsAtEnd (left_in taken.is_cut taken.place taken.count new))
bounded-read from before n buffer taken was_cut old new uncut fits gives read =
    let counted : length (take n buffer) ≡ n = length-take-le n buffer fits in
    let within : taken.bytes ≤ n = omega (arith, gives.within, counted) in
    let all = given-Consumes from taken.place before taken.count taken.bytes (take n buffer) taken.is_cut old new read.0 gives.left in (
      rw uncut (subst (λ l. Consumes (option_map (bounded_from from before) old) (left_in taken.is_cut taken.place taken.count new) l) (take-within taken.bytes n buffer within) all),
      λ none room. given-end taken.place taken.count taken.is_cut new (λ e. read.1 (omega (arith, none, gives.whole e, counted)) room),
    )
