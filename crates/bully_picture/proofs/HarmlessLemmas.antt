-- What is written of a text is harmless, letter by letter.
use Rattle.std.proofs.Common.{◌≡◌, ◌∙◌, ℕ, zero, suc, length, take, Bool, true, false, ◌||◌, ◌&&◌, ◌==◌, ◌++◌, List, [], ◌∷◌, refl, sym, ap, subst, codes, if◌then◌else◌, arith}
use Rattle.std.specs.Prelude.{nat_le}
use Rattle.std.specs.Str.{IsUtf8, chars}
use Rattle.std.proofs.lemmas.List.{append-nil}
use Rattle.std.proofs.lemmas.Str.{chars-encodes, encodes-append, scalars-chars}
use lib.Utf8.{encode, encodes, scalar, scalars}
use Rattle.bully_picture.specs.Escaping.{escaped, escaped_letter, is_forbidden, shortened}
use Rattle.bully_picture.specs.Harmless.{BeginsEntity, IsHarmless, IsHarmlessLetter}

-- the letters that are written of one
abbrev marks : ℕ → List ℕ
marks c =
    if c == 60 then codes "&lt;"
    else (if c == 62 then codes "&gt;"
    else (if c == 38 then codes "&amp;"
    else (if c == 34 then codes "&quot;"
    else (if c == 39 then codes "&#39;"
    else (if is_forbidden c then 65533 ∷ [] else c ∷ [])))))

abbrev all_marks : List ℕ → List ℕ
all_marks [] = []
all_marks (c ∷ cs) = marks c ++ all_marks cs

-- what holds of both arms holds of the choice
chosen : (b : Bool) (x y : List ℕ) (P : List ℕ → Type 0) → (b ≡ true → P x) → (b ≡ false → P y) → P (if b then x else y)
chosen true x y P first second = first refl
chosen false x y P first second = second refl

-- the arms are written alike
written-alike : (b : Bool) (x y xs ys : List ℕ) → x ≡ encodes xs → y ≡ encodes ys → (if b then x else y) ≡ encodes (if b then xs else ys)
written-alike true x y xs ys first second = first
written-alike false x y xs ys first second = second

one-written : (c : ℕ) → encode c ≡ encodes (c ∷ [])
one-written c = sym (append-nil (encode c))

letter-written : (c : ℕ) → escaped_letter c ≡ encodes (marks c)
unfolding encode
letter-written c =
    written-alike (c == 60) _ _ _ _ refl
    (written-alike (c == 62) _ _ _ _ refl
    (written-alike (c == 38) _ _ _ _ refl
    (written-alike (c == 34) _ _ _ _ refl
    (written-alike (c == 39) _ _ _ _ refl
    (written-alike (is_forbidden c) _ _ _ _ refl (one-written c))))))

all-written : (cs : List ℕ) → escaped cs ≡ encodes (all_marks cs)
all-written [] = refl
all-written (c ∷ cs) =
    ap (λ l. l ++ escaped cs) (letter-written c) ∙ ap (λ l. encodes (marks c) ++ l) (all-written cs) ∙ sym (encodes-append (marks c) (all_marks cs))

scalars-append : (xs ys : List ℕ) → scalars xs ≡ true → scalars ys ≡ true → scalars (xs ++ ys) ≡ true
scalars-append [] ys first second = second
scalars-append (x ∷ xs) ys first second = by (scalar x) (scalars xs) (scalars (xs ++ ys)) first (scalars-append xs ys)
  where
    by : (a b c : Bool) → (a && b) ≡ true → (b ≡ true → scalars ys ≡ true → c ≡ true) → (a && c) ≡ true
    by true b c both more = more both second
    by false b c both more = both

marks-scalars : (c : ℕ) → scalar c ≡ true → scalars (marks c) ≡ true
marks-scalars c is =
    let P : List ℕ → Type 0 = λ l. scalars l ≡ true in
    chosen (c == 60) _ _ P (λ _. refl)
    (λ _. chosen (c == 62) _ _ P (λ _. refl)
    (λ _. chosen (c == 38) _ _ P (λ _. refl)
    (λ _. chosen (c == 34) _ _ P (λ _. refl)
    (λ _. chosen (c == 39) _ _ P (λ _. refl)
    (λ _. chosen (is_forbidden c) _ _ P (λ _. refl) (λ _. ap (λ t. t && true) is))))))

scalar-first : (c : ℕ) (cs : List ℕ) → scalars (c ∷ cs) ≡ true → (scalar c ≡ true) × (scalars cs ≡ true)
scalar-first c cs is = by (scalar c) (scalars cs) is
  where
    by : (a b : Bool) → (a && b) ≡ true → (a ≡ true) × (b ≡ true)
    by true b both = (refl, both)
    by false b both = (both, cc)

all_marks-scalars : (cs : List ℕ) → scalars cs ≡ true → scalars (all_marks cs) ≡ true
all_marks-scalars [] are = refl
all_marks-scalars (c ∷ cs) are =
    let each = scalar-first c cs are in
    scalars-append (marks c) (all_marks cs) (marks-scalars c each.0) (all_marks-scalars cs each.1)

-- each letter is harmless before those behind it, by recursion
abbrev AreHarmless : List ℕ → Type 0
AreHarmless [] = Unit {0}
AreHarmless (c ∷ cs) = IsHarmlessLetter c cs × AreHarmless cs

harmless-at : (before behind : List ℕ) (letter : ℕ) → AreHarmless (before ++ letter ∷ behind) → IsHarmlessLetter letter behind
harmless-at [] behind letter are = are.0
harmless-at (b ∷ before) behind letter are = harmless-at before behind letter are.1

harmless-all : (letters : List ℕ) → AreHarmless letters → IsHarmless letters
harmless-all letters are before behind letter is = harmless-at before behind letter (subst AreHarmless is are)

-- XML keeps it for itself, or forbids it
abbrev is_kept : ℕ → Bool
is_kept c = (c == 60) || ((c == 62) || ((c == 38) || ((c == 34) || ((c == 39) || is_forbidden c))))

clash : true ≡ false → ⊥
clash e = cc

plain-letter : (c : ℕ) (behind : List ℕ) → is_kept c ≡ false → IsHarmlessLetter c behind
plain-letter c behind free = record {
  no_less_than = λ is. clash (subst (λ x. is_kept x ≡ false) is free);
  no_greater_than = λ is. clash (subst (λ x. is_kept x ≡ false) is free);
  no_double_quote = λ is. clash (subst (λ x. is_kept x ≡ false) is free);
  no_single_quote = λ is. clash (subst (λ x. is_kept x ≡ false) is free);
  no_control = last (c == 60) (c == 62) (c == 38) (c == 34) (c == 39) (is_forbidden c) free;
  entity = λ is. absurd (clash (subst (λ x. is_kept x ≡ false) is free));
}
  where
    last : (a b d e f g : Bool) → (a || (b || (d || (e || (f || g))))) ≡ false → g ≡ false
    last true b d e f g none = absurd (clash none)
    last false true d e f g none = absurd (clash none)
    last false false true e f g none = absurd (clash none)
    last false false false true f g none = absurd (clash none)
    last false false false false true g none = absurd (clash none)
    last false false false false false g none = none

-- an & before the name of an entity
ampersand : (behind : List ℕ) → BeginsEntity behind → IsHarmlessLetter 38 behind
ampersand behind begins = record {
  no_less_than = λ is. omega arith;
  no_greater_than = λ is. omega arith;
  no_double_quote = λ is. omega arith;
  no_single_quote = λ is. omega arith;
  no_control = refl;
  entity = λ _. begins;
}

none-kept : (a b d e f g : Bool) → a ≡ false → b ≡ false → d ≡ false → e ≡ false → f ≡ false → g ≡ false → (a || (b || (d || (e || (f || g))))) ≡ false
none-kept a b d e f g na nb nd ne nf ng = rw (na, nb, nd, ne, nf, ng)

marks-harmless : (c : ℕ) (rest : List ℕ) → AreHarmless rest → AreHarmless (marks c ++ rest)
marks-harmless c rest are =
    let P : List ℕ → Type 0 = λ l. AreHarmless (l ++ rest) in
    chosen (c == 60) _ _ P (λ _. (ampersand _ (codes "lt;", rest, (0, omega arith, refl), refl), (plain-letter 108 _ refl, (plain-letter 116 _ refl, (plain-letter 59 _ refl, are)))))
    (λ no60. chosen (c == 62) _ _ P (λ _. (ampersand _ (codes "gt;", rest, (1, omega arith, refl), refl), (plain-letter 103 _ refl, (plain-letter 116 _ refl, (plain-letter 59 _ refl, are)))))
    (λ no62. chosen (c == 38) _ _ P (λ _. (ampersand _ (codes "amp;", rest, (2, omega arith, refl), refl), (plain-letter 97 _ refl, (plain-letter 109 _ refl, (plain-letter 112 _ refl, (plain-letter 59 _ refl, are))))))
    (λ no38. chosen (c == 34) _ _ P (λ _. (ampersand _ (codes "quot;", rest, (3, omega arith, refl), refl), (plain-letter 113 _ refl, (plain-letter 117 _ refl, (plain-letter 111 _ refl, (plain-letter 116 _ refl, (plain-letter 59 _ refl, are)))))))
    (λ no34. chosen (c == 39) _ _ P (λ _. (ampersand _ (codes "#39;", rest, (4, omega arith, refl), refl), (plain-letter 35 _ refl, (plain-letter 51 _ refl, (plain-letter 57 _ refl, (plain-letter 59 _ refl, are))))))
    (λ no39. chosen (is_forbidden c) _ _ P (λ _. (plain-letter 65533 _ refl, are))
    (λ none. (plain-letter c _ (none-kept (c == 60) (c == 62) (c == 38) (c == 34) (c == 39) (is_forbidden c) no60 no62 no38 no34 no39 none), are)))))))

all-harmless : (cs : List ℕ) → AreHarmless (all_marks cs)
all-harmless [] = tt
all-harmless (c ∷ cs) = marks-harmless c (all_marks cs) (all-harmless cs)

-- what is written of letters is harmless
pub escaped-harmless : (cs : List ℕ) → scalars cs ≡ true → IsHarmless (chars (escaped cs))
escaped-harmless cs are =
    let letters : chars (escaped cs) ≡ all_marks cs = ap chars (all-written cs) ∙ chars-encodes (all_marks cs) (all_marks-scalars cs are) in
    subst IsHarmless (sym letters) (harmless-all (all_marks cs) (all-harmless cs))

take-scalars : (n : ℕ) (cs : List ℕ) → scalars cs ≡ true → scalars (take n cs) ≡ true
take-scalars zero cs are = refl
take-scalars (suc n) [] are = refl
take-scalars (suc n) (c ∷ cs) are =
    let each = scalar-first c cs are in
    ap (λ t. t && scalars (take n cs)) each.0 ∙ take-scalars n cs each.1

-- so is what is written of a text that is cut off
pub start-harmless : (most : ℕ) (raw : List ℕ) → IsUtf8 raw → IsHarmless (chars (escaped (shortened most (chars raw))))
start-harmless most raw is = escaped-harmless (shortened most (chars raw)) (by (nat_le (length (chars raw)) most))
  where
    by : (b : Bool) → scalars (if b then chars raw else take most (chars raw) ++ 8230 ∷ []) ≡ true
    by true = scalars-chars raw is
    by false = scalars-append (take most (chars raw)) (8230 ∷ []) (take-scalars most (chars raw) (scalars-chars raw is)) refl
