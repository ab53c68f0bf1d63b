-- The columns of a picture for a terminal.
use Rattle.std.proofs.Common.{◌≡◌, ◌∙◌, ℕ, ◌+◌, ◌-◌, ◌++◌, List, [], ◌∷◌, add-one, length, replicate, ap, sym, arith}
use Rattle.std.specs.Prelude.{max}
use Rattle.std.proofs.lemmas.List.{append_assoc, length-append, replicate_more}
use Rattle.bully_picture.specs.declared.columns.Form.{Form}
use Rattle.bully_picture.specs.Told.{filled, name_text, names_text}
use Rattle.bully_picture.specs.Written.{Writes, Written}
use Rattle.bully_picture.proofs.WrittenLemmas.{writes-as, writes-then}

-- one more space
pub space-more : (n : ℕ) (start a b : Written) → Writes start a (replicate n 32) → Writes a b (32 ∷ []) → Writes start b (replicate (n + 1) 32)
space-more n start a b so_far written = writes-as (replicate_more n 32) (writes-then so_far written)

-- a column that was filled up behind what was written in it
pub column-filled : (width : ℕ) (word : List ℕ) (a b c : Written) → Writes a b word → Writes b c (replicate (max 1 (width - (length b.text - length a.text))) 32) → Writes a c (filled width word)
column-filled width word a b c first second = record {
  memory = λ good. first.memory (second.memory good);
  text = λ good.
      let written = first.text (second.memory good) in
      let long : length b.text - length a.text ≡ length word = omega (arith, ap length written, length-append a.text word) in
      second.text good ∙ ap (λ n. b.text ++ replicate (max 1 (width - n)) 32) long ∙ ap (λ t. t ++ replicate (max 1 (width - length word)) 32) written
      ∙ append_assoc a.text word (replicate (max 1 (width - length word)) 32);
}

-- one more head of a column
pub names-more : (form : Form) (n : ℕ) → names_text form n ++ name_text form (n + 1) ≡ names_text form (n + 1)
names-more form n = sym (ap (names_text form) (add-one n))
