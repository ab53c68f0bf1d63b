-- What stands in a draft behind several pieces.
use Rattle.std.proofs.Common.{◌≡◌, ◌∙◌, ℕ, zero, suc, ◌+◌, ◌++◌, List, [], ◌∷◌, refl, sym, ap, subst, arith, codes, replicate, append_assoc, append-nil}
use Rattle.std.specs.Str.{chars}
use Rattle.bully_draft.specs.Drafted.{Appends, AppendsLines, Drafted}
use Rattle.bully_draft.specs.Shown.{AllPlain, ArePlain, lines_text}

-- nothing was appended
pub appends_nothing : (a : Drafted) → Appends a a []
appends_nothing a = record { memory = λ good. good; text = λ good. sym (append-nil a.text) }

-- two pieces are one
pub appends_then : {a b c : Drafted} {p q : List ℕ} → Appends a b p → Appends b c q → Appends a c (p ++ q)
appends_then {a} {b} {c} {p} {q} first second = record {
  memory = λ good. first.memory (second.memory good);
  text = λ good. second.text good ∙ ap (λ t. t ++ q) (first.text (second.memory good)) ∙ append_assoc a.text p q;
}

-- ---- spaces

spaces-more : (n : ℕ) → replicate n 32 ++ codes " " ≡ replicate (suc n) 32
spaces-more zero = refl
spaces-more (suc n) = ap (λ (l : List ℕ). 32 ∷ l) (spaces-more n)

pub one-space : {a b c : Drafted} (n : ℕ) → Appends a b (replicate n 32) → Appends b c (codes " ") → Appends a c (replicate (n + 1) 32)
one-space {a} {b} {c} n first second =
    let next : suc n ≡ n + 1 = omega arith in
    subst (Appends a c) (spaces-more n ∙ ap (λ m. replicate m 32) next) (appends_then first second)

-- ---- lines

lines-more : (lines : List (List ℕ)) (line : List ℕ) → lines_text (lines ++ line ∷ []) ≡ lines_text lines ++ (line ++ codes "\n")
lines-more [] line = refl
lines-more (first ∷ lines) line =
    ap (λ t. first ++ (codes "\n" ++ t)) (lines-more lines line) ∙ sym (append_assoc first (codes "\n" ++ lines_text lines) (line ++ codes "\n"))

plain-more : (lines : List (List ℕ)) (line : List ℕ) → ArePlain lines → AllPlain (chars line) → ArePlain (lines ++ line ∷ [])
plain-more [] line are one = (one, tt)
plain-more (first ∷ lines) line (head, are) one = (head, plain-more lines line are one)

pub no-lines : (a : Drafted) → AppendsLines a a
no-lines a = record { memory = λ good. good; text = λ good. ([], tt, sym (append-nil a.text)) }

-- one line more
pub one-line : (start a b c : Drafted) (line : List ℕ) → AppendsLines start a → Appends a b line → AllPlain (chars line) → Appends b c (codes "\n") → AppendsLines start c
one-line start a b c line so_far first plain second =
    let both = appends_then first second in
    record {
      memory = λ good. so_far.memory (both.memory good);
      text = λ good.
          let (lines, are, is) = so_far.text (both.memory good) in (
            lines ++ line ∷ [],
            plain-more lines line are plain,
            both.text good ∙ ap (λ t. t ++ (line ++ codes "\n")) is ∙ append_assoc start.text (lines_text lines) (line ++ codes "\n") ∙ ap (λ t. start.text ++ t) (sym (lines-more lines line)),
          );
    }
