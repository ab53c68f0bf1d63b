-- The answer that a reply spells.
use Rattle.std.specs.Prelude.{List, [], ◌∷◌, ℕ, Option}
use Rattle.bully_calls.specs.declared.call.Answer.{Answer}
use Rattle.bully_calls.specs.declared.call.Answer.TheVariants.{Yes, No}
use Rattle.bully_rows.specs.Words.{answer_word, first_named}

-- the answer of this word: one that a call is given where it runs
abbrev pub answer_named : List ℕ → Option Answer
answer_named word = first_named answer_word word (Yes ∷ No ∷ [])
