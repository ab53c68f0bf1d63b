-- Lines of fields in which no byte calls for quotes, as csv reads them.
use Rattle.std.proofs.Common.{◌≡◌, ◌∙◌, ℕ, zero, suc, ◌+◌, ◌^◌, ◌<◌, ◌≤◌, ◌++◌, true, false, List, [], ◌∷◌, length, Some, append-nil, length-append, arith, refl, sym, ap}
use Rattle.std.specs.Prelude.{⊤, ◌==◌, codes}
use Rattle.std.specs.Fmt.{decimal}
use Rattle.std.specs.List.{join_with_byte, list_all, list_any}
use Rattle.std.proofs.lemmas.Bool.{and_parts}
use Rattle.std.proofs.lemmas.Bool.Decides.{nat_tests}
use Rattle.std.proofs.lemmas.List.Elements.{All-head, All-tail}
use Rattle.std.proofs.lemmas.List.Folds.{list_any-append}
use Rattle.csv.specs.Machine.{next_record}
use Rattle.csv.specs.Reading.{default_config, records_from, strip_bom}
use Rattle.csv.specs.Writing.{default_writer, field_text, fields_text, is_blank, needs_byte, row_text}
use Rattle.csv.specs.declared.parser.State.TheVariants as st
use Rattle.csv.proofs.RoundTrip.{read-write}
use Rattle.bully_table.specs.Numeral.{is_digit}
use Rattle.bully_table.specs.TableText.{owners_text}
use Rattle.bully_rows.specs.Headers.{Record}
use Rattle.bully_rows.specs.Rows.{records_of}
use Rattle.bully_rows.specs.TraceText.{line_of}
use Rattle.bully_rows.proofs.ListTexts.{AreSmall}
use Rattle.bully_rows.proofs.NumberTexts.{decimal-digits}

-- ---- texts without a mark

-- no byte of the text calls for quotes
abbrev pub IsBare : List ℕ → Type 0
IsBare text = list_any (needs_byte default_writer) text ≡ false

abbrev pub AreBare : List (List ℕ) → Type 0
AreBare [] = ⊤
AreBare (x ∷ xs) = IsBare x × AreBare xs

-- at least two such fields
abbrev pub IsLine : Record → Type 0
IsLine [] = ⊥
IsLine (x ∷ []) = ⊥
IsLine (x ∷ y ∷ ys) = AreBare (x ∷ y ∷ ys)

bare-append : (xs ys : List ℕ) → IsBare xs → IsBare ys → IsBare (xs ++ ys)
bare-append xs ys front back = list_any-append (needs_byte default_writer) xs ys ∙ rw (front, back) refl

bare-digits : (ds : List ℕ) → list_all is_digit ds ≡ true → IsBare ds
bare-digits [] all = refl
bare-digits (b ∷ ds) all =
    let parts = and_parts (is_digit b) (list_all is_digit ds) all in
    let comma : (b == 44) ≡ false = grind (arith, nat_tests, parts.0) in
    let quote : (b == 34) ≡ false = grind (arith, nat_tests, parts.0) in
    let back : (b == 13) ≡ false = grind (arith, nat_tests, parts.0) in
    let feed : (b == 10) ≡ false = grind (arith, nat_tests, parts.0) in
    rw (comma, quote, back, feed) (bare-digits ds parts.1)

pub bare-decimal : (n : ℕ) → n < 2 ^ 64 → IsBare (decimal n)
bare-decimal n small = bare-digits (decimal n) (decimal-digits n small)

pub bare-numbers : (xs : List ℕ) → AreSmall xs → IsBare (owners_text 32 xs)
bare-numbers [] small = refl
bare-numbers (x ∷ []) small = bare-decimal x (All-head (λ n. n < 2 ^ 64) x [] small)
bare-numbers (x ∷ y ∷ xs) small =
    bare-append (decimal x) (32 ∷ owners_text 32 (y ∷ xs)) (bare-decimal x (All-head (λ n. n < 2 ^ 64) x (y ∷ xs) small))
    (bare-numbers (y ∷ xs) (All-tail (λ n. n < 2 ^ 64) x (y ∷ xs) small))

-- ---- a line is what csv's writer writes

bare-field : (x : List ℕ) → IsBare x → field_text default_writer x ≡ x
bare-field x bare = rw bare refl

bare-fields : (x : List ℕ) (xs : List (List ℕ)) → AreBare (x ∷ xs) → join_with_byte 44 (x ∷ xs) ≡ field_text default_writer x ++ fields_text default_writer xs
unfolding fields_text
bare-fields x [] bare = rw (bare-field x bare.0) (sym (append-nil x))
bare-fields x (y ∷ ys) bare =
    let more = bare-fields y ys bare.1 in
    rw (bare-field x bare.0) (ap (λ (t : List ℕ). x ++ (44 ∷ t)) more)

line-written : (x y : List ℕ) (ys : List (List ℕ)) → AreBare (x ∷ y ∷ ys) → line_of (x ∷ y ∷ ys) ≡ row_text default_writer (x ∷ y ∷ ys)
unfolding is_blank
line-written x y ys bare = ap (λ (t : List ℕ). t ++ codes "\n") (bare-fields x (y ∷ ys) bare)

-- and is read back
line-next : (fields : Record) (tail : List ℕ) → IsLine fields
    → next_record default_config st.StartRecord [] [] (line_of fields ++ tail) ≡ Some (fields, st.StartRecord, tail)
line-next [] tail line = absurd line
line-next (x ∷ []) tail line = absurd line
line-next (x ∷ y ∷ ys) tail line =
    ap (λ (t : List ℕ). next_record default_config st.StartRecord [] [] (t ++ tail)) (line-written x y ys line) ∙ read-write (x ∷ y ∷ ys) tail

-- ---- lines, one behind the other

abbrev pub AreLines : List Record → Type 0
AreLines [] = ⊤
AreLines (fields ∷ records) = IsLine fields × AreLines records

abbrev pub lines : List Record → List ℕ
lines [] = []
lines (fields ∷ records) = line_of fields ++ lines records

lines-from : (records : List Record) (n : ℕ) → length records ≤ n → AreLines records → records_from default_config n st.StartRecord (lines records) ≡ records
unfolding records_from next_record
lines-from [] zero few are = refl
lines-from [] (suc n) few are = refl
lines-from (fields ∷ records) zero few are = absurd (omega arith)
lines-from (fields ∷ records) (suc n) few are =
    rw (line-next fields (lines records) are.0) (ap (λ (rs : List Record). fields ∷ rs) (lines-from records n (omega arith) are.1))

-- each line has a byte
lines-long : (records : List Record) → length records ≤ length (lines records)
lines-long [] = omega arith
lines-long (fields ∷ records) =
    let more = lines-long records in
    let all = length-append (line_of fields) (lines records) in
    let here = length-append (join_with_byte 44 fields) (codes "\n") in
    omega (arith, more, all, here)

pub lines-read : (records : List Record) → strip_bom (lines records) ≡ lines records → AreLines records → records_of (lines records) ≡ records
lines-read records unmarked are =
    let long = lines-long records in
    rw unmarked (lines-from records (length (lines records) + 1) (omega (arith, long)) are)
