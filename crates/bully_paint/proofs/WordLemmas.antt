-- Lemmas on the words that have a colour.
use Rattle.std.proofs.Common.{◌≡◌, ℕ, ◌+◌, ◌<◌, Bool, true, false, List, [], ◌∷◌, ◌++◌, Option, Some, refl, sym, ap, ◌∙◌, if◌then◌else◌, length, take, append_assoc, length-append, arith}
use Rattle.std.proofs.lemmas.List.{take-append-le, take_all}
use Rattle.std.proofs.lemmas.Grind.{common_steps}
use Rattle.std.specs.Prelude.{slice_get}
use Rattle.std.proofs.lemmas.Slice.Eq.{bytes_eq-Decides}
use Rattle.std.specs.List.{find}
use Rattle.std.specs.Str.{bytes_eq}
use Rattle.bully_paint.specs.Marks.{is_whole, unpainted}
use Rattle.bully_paint.specs.Words.{ending_of, every_word, is_separator, painted_as, painting_of, text_of, word_named}
use Rattle.bully_paint.specs.declared.words.Word.{Word}

-- without its marks a painted word is the word
pub painting-text : (word : Word) → unpainted (painting_of word) ≡ unpainted (text_of word)
painting-text Word.Lawful = refl
painting-text Word.Refused = refl
painting-text Word.Differs = refl
painting-text Word.Election = refl
painting-text Word.Reorganization = refl
painting-text Word.Normal = refl
painting-text Word.Down = refl
painting-text Word.Rule = refl
painting-text Word.Step = refl
painting-text Word.Fault = refl
painting-text Word.Mistake = refl

pub painting-whole : (word : Word) → is_whole (painting_of word) ≡ true
painting-whole Word.Lawful = refl
painting-whole Word.Refused = refl
painting-whole Word.Differs = refl
painting-whole Word.Election = refl
painting-whole Word.Reorganization = refl
painting-whole Word.Normal = refl
painting-whole Word.Down = refl
painting-whole Word.Rule = refl
painting-whole Word.Step = refl
painting-whole Word.Fault = refl
painting-whole Word.Mistake = refl

-- a word that is named has that text
record IsNamed (bytes : List ℕ) (named : Option Word) : Type 0 where
  pub text : unpainted (painted_as named bytes) ≡ unpainted bytes
  pub whole : is_whole bytes ≡ true → is_whole (painted_as named bytes) ≡ true

named-if : (bytes : List ℕ) (word : Word) (rest : Option Word) (same : Bool) → bytes_eq bytes (text_of word) ≡ same → IsNamed bytes rest → IsNamed bytes (if same then Some word else rest)
named-if bytes word rest false e tail = tail
named-if bytes word rest true e tail =
    record {
      text = painting-text word ∙ ap unpainted (sym ((bytes_eq-Decides bytes (text_of word)).0 e));
      whole = λ whole. painting-whole word;
    }

named-in : (bytes : List ℕ) (words : List Word) → IsNamed bytes (find (λ word. bytes_eq bytes (text_of word)) words)
named-in bytes [] = record { text = refl; whole = λ whole. whole }
named-in bytes (word ∷ words) = named-if bytes word _ _ refl (named-in bytes words)

ending-if : (bytes : List ℕ) (separates : Bool) → IsNamed bytes (word_named bytes)
    → (unpainted (if separates then painted_as (word_named bytes) bytes else bytes) ≡ unpainted bytes)
    × (is_whole bytes ≡ true → is_whole (if separates then painted_as (word_named bytes) bytes else bytes) ≡ true)
ending-if bytes false named = (refl, λ whole. whole)
ending-if bytes true named = (named.text, named.whole)

-- what goes out at a word's end has the same text
pub ending-text : (bytes : List ℕ) (b : ℕ) → unpainted (ending_of bytes b) ≡ unpainted bytes
ending-text bytes b = (ending-if bytes (is_separator b) (named-in bytes every_word)).0

pub ending-whole : (bytes : List ℕ) (b : ℕ) → is_whole bytes ≡ true → is_whole (ending_of bytes b) ≡ true
ending-whole bytes b = (ending-if bytes (is_separator b) (named-in bytes every_word)).1

take-next : (front rest : List ℕ) (b : ℕ) → take (length front + 1) (front ++ b ∷ rest) ≡ front ++ b ∷ []
take-next front rest b =
    let size = length-append front (b ∷ []) in
    let n = length front + 1 in
    ap (take n) (sym (append_assoc front (b ∷ []) rest))
    ∙ take-append-le n (front ++ b ∷ []) rest (omega arith)
    ∙ take_all n (front ++ b ∷ []) (omega arith)

-- behind a front the text has this byte
pub next-read : (text front rest : List ℕ) (b : ℕ) → text ≡ front ++ rest → slice_get rest 0 ≡ Some b
    → (length front < length text) × (take (length front + 1) text ≡ front ++ b ∷ [])
next-read text front [] b e f = grind (arith, common_steps, f)
next-read text front (x ∷ rest) b e f =
    let same : x ≡ b = grind (arith, common_steps, f) in
    let size = length-append front (x ∷ rest) in
    let long : length text ≡ length (front ++ x ∷ rest) = ap length e in
    (omega arith, ap (take (length front + 1)) e ∙ take-next front rest x ∙ ap (λ y. front ++ y ∷ []) same)

pub ended_text : (out front : List ℕ) (b : ℕ) → out ≡ ending_of front b → unpainted out ≡ unpainted front
ended_text out front b e = ap unpainted e ∙ ending-text front b

pub ended_whole : (out front : List ℕ) (b : ℕ) → is_whole front ≡ true → out ≡ ending_of front b → is_whole out ≡ true
ended_whole out front b whole e = ap is_whole e ∙ ending-whole front b whole
