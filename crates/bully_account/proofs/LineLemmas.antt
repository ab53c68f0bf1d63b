-- How many line feeds there are within the first fields of a row, and in its last one.
use Rattle.std.proofs.Common.{◌≡◌, ◌∙◌, ℕ, ◌+◌, ◌-◌, ◌<◌, ◌++◌, List, [], ◌∷◌, Some, None, length, take, get_or, ap, arith, refl, sym}
use Rattle.std.proofs.lemmas.List.{take_more}
use Rattle.csv.specs.Records.{field_at}
use Rattle.csv.proofs.RecordFacts.{field-get, field-there}
use Rattle.bully_account.specs.Tail.{feeds, feeds_within, last_field}

feeds-append : (fields : List (List ℕ)) (field : List ℕ) → feeds_within (fields ++ field ∷ []) ≡ feeds_within fields + feeds field
feeds-append [] field = omega arith
feeds-append (first ∷ rest) field = omega (arith, feeds-append rest field)

-- one more field
pub feeds-more : (line first next i : ℕ) (fields : List (List ℕ)) (field : List ℕ) → i < length fields → field_at fields i ≡ Some field
    → first ≡ line - feeds_within (take i fields) → next ≡ first - feeds field → next ≡ line - feeds_within (take (i + 1) fields)
feeds-more line first next i fields field within is so_far one =
    let all : take (i + 1) fields ≡ take i fields ++ field ∷ [] =
    take_more fields i [] within ∙ ap (λ x. take i fields ++ x ∷ []) (field-get fields i field is) in
    let sum : feeds_within (take (i + 1) fields) ≡ feeds_within (take i fields) + feeds field =
    ap feeds_within all ∙ feeds-append (take i fields) field in
    omega (arith, so_far, one, sum)

-- in the last field, if there is one
pub last-feeds : (fields : List (List ℕ)) (i : ℕ) (field : List ℕ) → i ≡ length fields - 1 → field_at fields i ≡ Some field → feeds (last_field fields) ≡ feeds field
last-feeds fields i field at is = ap (λ n. feeds (get_or fields n [])) (sym at) ∙ ap feeds (field-get fields i field is)

pub last-none : (fields : List (List ℕ)) (i : ℕ) → i ≡ length fields - 1 → field_at fields i ≡ None → feeds (last_field fields) ≡ 0
last-none [] i at is = refl
last-none (field ∷ fields) i at is = absurd (field-there (field ∷ fields) i (omega (arith, at)) is)
