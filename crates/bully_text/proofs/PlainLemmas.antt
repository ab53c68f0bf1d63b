-- Bytes among which none is quoted or a quote: all of them are given, where their row has room.
use Rattle.std.specs.Bool.{⊤}
use Rattle.std.proofs.Common.{◌≡◌, ◌∙◌, ℕ, zero, suc, ◌+◌, ◌-◌, ◌<◌, ◌≤◌, ◌++◌, ◌==◌, false, List, [], ◌∷◌, Some, None, length, take, get_or, arith, refl, sym, ap, zero-le, nat_lt, if◌then◌else◌, inl, inr}
use Rattle.std.proofs.lemmas.Bool.{cases_Bool}
use Rattle.std.proofs.lemmas.List.{take_all}
use Rattle.memchr.specs.Find.{IsFirstByte, Nowhere, Passes, is_byte, is_byte2}
use Rattle.bully_text.specs.Bounded.{IsPlain, bounded_from, count_after, ends_row, place_after, place_outside, starts_field}
use Rattle.bully_text.specs.declared.TheConstants.{ROW_BYTES_MAX}
use Rattle.bully_text.specs.declared.bounded.Place.{Place}
use Rattle.bully_text.proofs.EachLemmas.{bounded-more}

-- none of the bytes is a quote
abbrev pub NoQuote : List ℕ → Type 0
NoQuote [] = ⊤
NoQuote (byte ∷ rest) = (byte == 34 ≡ false) × NoQuote rest

-- how many bytes of its row there are behind a byte
abbrev pub next : ℕ → ℕ → ℕ
next count byte = if ends_row byte then 0 else count + 1

-- where one stands behind such bytes, and how many bytes of its row there are
abbrev pub place_behind : Place → List ℕ → Place
place_behind place [] = place
place_behind place (byte ∷ rest) = place_behind (place_outside byte) rest

abbrev pub count_behind : ℕ → List ℕ → ℕ
count_behind count [] = count
count_behind count (byte ∷ rest) = count_behind (next count byte) rest

pub no-quote : (bytes : List ℕ) → IsFirstByte (is_byte 34) bytes None → NoQuote bytes
no-quote [] none = tt
no-quote (byte ∷ rest) none = (
  elim (cases_Bool (byte == 34)) [
    | inl is ↦ absurd (none 0 zero-le (omega arith) is)
    | inr other ↦ other
  ],
  no-quote rest (λ k low high is. none (suc k) zero-le (omega (arith, high)) is),
)

outside-plain : (byte : ℕ) → IsPlain (place_outside byte)
outside-plain byte = elim (cases_Bool (starts_field byte)) [
  | inl is ↦ rw is tt
  | inr other ↦ rw other tt
]

after-plain : (place : Place) (byte : ℕ) → IsPlain place → byte == 34 ≡ false → place_after place byte ≡ place_outside byte
after-plain Place.TextStart byte plain other = absurd plain
after-plain Place.MarkBegun byte plain other = absurd plain
after-plain Place.MarkBehind byte plain other = absurd plain
after-plain Place.FieldStart byte plain other = rw other refl
after-plain Place.InField byte plain other = refl
after-plain Place.InQuotes byte plain other = absurd plain
after-plain Place.AfterQuote byte plain other = rw other refl

next-count : (count byte : ℕ) → count < ROW_BYTES_MAX → (if ends_row byte then Some 0 else if nat_lt count ROW_BYTES_MAX then Some (count + 1) else None) ≡ Some (next count byte)
next-count count byte room = elim (cases_Bool (ends_row byte)) [
  | inl is ↦ rw is refl
  | inr other ↦ grind (arith, other, room)
]

count-plain : (place : Place) (count byte : ℕ) → IsPlain place → count < ROW_BYTES_MAX → count_after place count byte ≡ Some (next count byte)
count-plain Place.TextStart count byte plain room = absurd plain
count-plain Place.MarkBegun count byte plain room = absurd plain
count-plain Place.MarkBehind count byte plain room = absurd plain
count-plain Place.FieldStart count byte plain room = next-count count byte room
count-plain Place.InField count byte plain room = next-count count byte room
count-plain Place.InQuotes count byte plain room = absurd plain
count-plain Place.AfterQuote count byte plain room = next-count count byte room

next-room : (count byte n : ℕ) → count + (n + 1) ≤ ROW_BYTES_MAX → next count byte + n ≤ ROW_BYTES_MAX
next-room count byte n room = elim (cases_Bool (ends_row byte)) [
  | inl is ↦ grind (arith, is, room)
  | inr other ↦ grind (arith, other, room)
]

pub plain-left : (place : Place) (count : ℕ) (bytes rest : List ℕ) → IsPlain place → count + length bytes ≤ ROW_BYTES_MAX → NoQuote bytes
    → bounded_from place count (bytes ++ rest) ≡ bytes ++ bounded_from (place_behind place bytes) (count_behind count bytes) rest
plain-left place count [] rest out room none = refl
plain-left place count (byte ∷ bytes) rest out room none =
    bounded-more place count byte (next count byte) (bytes ++ rest) (count-plain place count byte out (omega (arith, room)))
    ∙ ap (λ p. byte ∷ bounded_from p (next count byte) (bytes ++ rest)) (after-plain place byte out none.0)
    ∙ ap (λ l. byte ∷ l) (plain-left (place_outside byte) (next count byte) bytes rest (outside-plain byte) (next-room count byte (length bytes) (omega (arith, room))) none.1)

-- no row ends among them
pub count-none : (count : ℕ) (bytes : List ℕ) → Nowhere (Passes (is_byte2 10 13) bytes) 0 (length bytes) → count_behind count bytes ≡ count + length bytes
count-none count [] none = omega arith
count-none count (byte ∷ bytes) none = elim (cases_Bool (ends_row byte)) [
  | inl is ↦ absurd (none 0 zero-le (omega arith) is)
  | inr other ↦ rw other (count-none (count + 1) bytes (λ k low high is. none (suc k) zero-le (omega (arith, high)) is) ∙ omega arith)
]

-- the last row ends with byte k
pub count-some : (count k : ℕ) (bytes : List ℕ) → k < length bytes → Passes (is_byte2 10 13) bytes k → Nowhere (Passes (is_byte2 10 13) bytes) (k + 1) (length bytes)
    → count_behind count bytes ≡ length bytes - 1 - k
count-some count k [] low is none = absurd (omega (arith, low))
count-some count zero (byte ∷ bytes) low is none =
    rw is (count-none 0 bytes (λ k low high more. none (suc k) (omega arith) (omega (arith, high)) more) ∙ omega arith)
count-some count (suc k) (byte ∷ bytes) low is none =
    count-some (next count byte) k bytes (omega (arith, low)) is (λ j from high more. none (suc j) (omega (arith, from)) (omega (arith, high)) more) ∙ omega arith

pub place-last : (place : Place) (bytes : List ℕ) → 0 < length bytes → place_behind place bytes ≡ place_outside (get_or bytes (length bytes - 1) 0)
place-last place [] some = absurd (omega (arith, some))
place-last place (byte ∷ []) some = refl
place-last place (byte ∷ more ∷ rest) some =
    let e : length (byte ∷ more ∷ rest) - 1 ≡ suc (length (more ∷ rest) - 1) = omega arith in
    rw e (place-last (place_outside byte) (more ∷ rest) (omega arith))

-- all of them are given, and one stands behind the last of them
pub plain-whole : (place last : Place) (count behind : ℕ) (given : List ℕ) → IsPlain place → count + length given ≤ ROW_BYTES_MAX
    → IsFirstByte (is_byte 34) given None → 0 < length given → last ≡ place_outside (get_or given (length given - 1) 0) → behind ≡ count_behind count given
    → (rest : List ℕ) → bounded_from place count (given ++ rest) ≡ take (length given) given ++ bounded_from last behind rest
plain-whole place last count behind given out room none some at_last counted rest =
    let at : place_behind place given ≡ last = place-last place given some ∙ sym at_last in
    plain-left place count given rest out room (no-quote given none)
    ∙ ap (λ p. given ++ bounded_from p (count_behind count given) rest) at
    ∙ ap (λ n. given ++ bounded_from last n rest) (sym counted)
    ∙ ap (λ l. l ++ bounded_from last behind rest) (sym (take_all (length given) given (omega arith)))
