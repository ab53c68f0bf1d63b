-- The words that a set of nodes keeps can be read off its members.
use Rattle.std.proofs.Common.{◌≡◌, ℕ, List, ◌∙◌, sym, ap}
use Rattle.bully_base.specs.declared.node_set.NodeSet.TheInside.{Inside}
use Rattle.bully_base.specs.NodeSet.{members_of, words_of}
use Rattle.bully_base.specs.UsedWords.{used_of, IsRow}
use Rattle.bully_base.specs.NodeSetLaws.{words_of-members_of}

abbrev with_words : List ℕ → ℕ → Inside
with_words words used = record { words = words; used = used }

pub inverse_of_view : (a : Inside) → IsRow a.words a.used
    → with_words (words_of (members_of a.words)) (used_of (words_of (members_of a.words))) ≡ a
inverse_of_view a h = ap (λ (ws : List ℕ). with_words ws (used_of ws)) (words_of-members_of a.words h.0 h.1)
    ∙ ap (with_words a.words) (sym h.2)
