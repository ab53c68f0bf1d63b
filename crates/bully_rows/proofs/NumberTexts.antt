-- The text of a number, read back.
use Rattle.std.proofs.Common.{◌≡◌, ℕ, ◌^◌, ◌<◌, ◌≤◌, ◌++◌, true, false, List, [], ◌∷◌, length, get_or, Option, Some, None, All, append-nil, arith, rules, refl, ◌==◌, IfSome, codes, option_and_then}
use Rattle.std.specs.Str.{bytes_eq}
use Rattle.std.specs.Fmt.{decimal}
use Rattle.std.specs.List.{list_all}
use Rattle.std.proofs.lemmas.Bool.{and_parts}
use Rattle.std.proofs.lemmas.Bool.Decides.{nat_tests}
use Rattle.std.proofs.lemmas.Fmt.{decimal_nonempty, digits_decimal, digits_value-decimal, first_decimal}
use Rattle.std.proofs.lemmas.List.Elements.{All-cons, All-nil}
use Rattle.std.proofs.lemmas.Str.Parse.{IsNumeralModel, numerals_by_fold}
use Rattle.bully_base.specs.declared.TheConstants.{WEIGHT_MAX}
use Rattle.bully_table.specs.Numeral.{is_digit, is_numeral, number_of, read_on}
use Rattle.bully_rows.specs.declared.header.Version.{Version}
use Rattle.bully_rows.specs.Headers.{node_in, nodes_max, partitions_in, partitions_max, weight_in, within}
use Rattle.bully_rows.specs.ReadBack.{IsNamed}
use Rattle.bully_rows.specs.Rows.{coordinator_in}
use Rattle.bully_rows.specs.TraceText.{node_text}

-- ---- digits

-- the project's words for digits and their number are those of std's lemmas
own : IsNumeralModel (λ ds. list_all is_digit ds ≡ true) (read_on 0)
own = numerals_by_fold _ (search rules) read_on (search rules)

pub decimal-digits : (n : ℕ) → n < 2 ^ 64 → list_all is_digit (decimal n) ≡ true
decimal-digits n small = digits_decimal own n small

-- digits without a zero at the front
numeral-of : (ds : List ℕ) → list_all is_digit ds ≡ true → 48 < get_or ds 0 0 → is_numeral ds ≡ true
numeral-of [] all first = absurd (omega arith)
numeral-of (b ∷ []) all first = (and_parts (is_digit b) true all).0
numeral-of (b ∷ c ∷ rest) all first =
    let other : (b == 48) ≡ false = grind (arith, nat_tests, first) in
    let parts = and_parts (is_digit b) (list_all is_digit (c ∷ rest)) all in
    rw (other, parts.0) parts.1

pub number-read : (n : ℕ) → 0 < n → n < 2 ^ 64 → number_of (decimal n) ≡ Some n
number-read n positive small =
    rw (numeral-of (decimal n) (decimal-digits n small) (first_decimal n positive small), digits_value-decimal own n small) refl

-- no digit is a space
pub unspaced : (ds : List ℕ) → list_all is_digit ds ≡ true → All (λ b. (b == 32) ≡ false) ds
unspaced [] all = All-nil (λ b. (b == 32) ≡ false)
unspaced (b ∷ ds) all =
    let parts = and_parts (is_digit b) (list_all is_digit ds) all in
    All-cons (λ b. (b == 32) ≡ false) b ds (grind (arith, nat_tests, parts.0)) (unspaced ds parts.1)

-- a text that begins with a digit is no dash
pub no-dash : (ds rest : List ℕ) → list_all is_digit ds ≡ true → 0 < length ds → bytes_eq (ds ++ rest) (codes "-") ≡ false
no-dash [] rest all some = absurd (omega arith)
no-dash (b ∷ ds) rest all some =
    let parts = and_parts (is_digit b) (list_all is_digit ds) all in
    let other : (b == 45) ≡ false = grind (arith, nat_tests, parts.0) in
    rw other refl

pub decimal-no_dash : (n : ℕ) (rest : List ℕ) → n < 2 ^ 64 → bytes_eq (decimal n ++ rest) (codes "-") ≡ false
decimal-no_dash n rest small = no-dash (decimal n) rest (decimal-digits n small) (decimal_nonempty n small)

-- ---- numbers within their limits

pub within-read : (limit n : ℕ) → limit < 2 ^ 64 → 0 < n → n ≤ limit → option_and_then (within limit) (number_of (decimal n)) ≡ Some n
within-read limit n small positive low =
    let told : within limit n ≡ Some n = grind (arith, nat_tests, positive, low) in
    rw (number-read n positive (omega arith)) told

nodes-small : (version : Version) → nodes_max version < 2 ^ 64
nodes-small Version.One = omega arith
nodes-small Version.Two = omega arith
nodes-small Version.Three = omega arith

partitions-small : (version : Version) → partitions_max version < 2 ^ 64
partitions-small Version.One = omega arith
partitions-small Version.Two = omega arith
partitions-small Version.Three = omega arith

pub named-small : (version : Version) (i : ℕ) → IsNamed version i → i < 2 ^ 64
named-small version i named = let small = nodes-small version in omega arith

pub node-read : (version : Version) (i : ℕ) → IsNamed version i → node_in version (decimal i) ≡ Some i
node-read version i named = within-read (nodes_max version) i (nodes-small version) named.0 named.1

pub partitions-read : (version : Version) (p : ℕ) → 0 < p → p ≤ partitions_max version → partitions_in version (decimal p) ≡ Some p
partitions-read version p positive low = within-read (partitions_max version) p (partitions-small version) positive low

pub weight-read : (w : ℕ) → 0 < w → w ≤ WEIGHT_MAX → weight_in (decimal w) ≡ Some w
weight-read w positive low = within-read WEIGHT_MAX w (omega arith) positive low

-- a node, or none
pub coordinator-read : (version : Version) (c : Option ℕ) → IfSome c (IsNamed version) → coordinator_in version (node_text c) ≡ Some c
coordinator-read version None named = refl
coordinator-read version (Some i) named =
    let digits : bytes_eq (decimal i) (codes "-") ≡ false = rw (append-nil (decimal i)) at (decimal-no_dash i [] (named-small version i named)) in
    rw (digits, node-read version i named) refl
