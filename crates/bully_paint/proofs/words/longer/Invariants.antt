-- No word so far begins with the front and the byte.
use Rattle.std.proofs.Common.{◌≡◌, ◌++◌, ◌∷◌, [], false, take}
use Rattle.std.specs.List.{list_any}
use Rattle.bully_paint.specs.Strokes.{begins}
use Rattle.bully_paint.specs.Words.{every_word, text_of}
use Rattle.bully_paint.proofs.words.longer.Given as goal

abbrev pub invariant-loop-word : goal.invariant-loop-word
invariant-loop-word l = list_any (λ w. begins (text_of w) (l.front ++ l.byte ∷ [])) (take l.word-index every_word) ≡ false
