-- Taking the first piece off a text.
use Rattle.std.proofs.Common.{◌≡◌, ℕ, ◌-◌, ◌<◌, ◌≤◌, List, [], ◌∷◌, length, take, drop, arith, refl, ◌∙◌, length-drop, ◌==◌}
use Rattle.std.specs.List.{position_or_len, slice_split}
use Rattle.std.proofs.lemmas.Grind.{common_steps}
use Rattle.std.proofs.lemmas.List.{take_rest, drop-drop}
use Rattle.std.proofs.lemmas.List.Splits.{slice_split_first, slice_split_none}
use Rattle.std.proofs.lemmas.List.Sums.{fails_before_first}
use Rattle.bully_table.specs.Pieces.{is_space}

split-none : (text : List ℕ) → length text ≤ position_or_len is_space text → slice_split (λ b. b == 32) text ≡ text ∷ []
split-none text h = slice_split_none (λ b. b == 32) text (grind (arith, common_steps, fails_before_first))

pub split-last : (text piece tail : List ℕ) (end : ℕ) → end ≡ position_or_len is_space text → piece ≡ take end text → tail ≡ drop end text → length tail ≡ 0 → slice_split (λ b. b == 32) text ≡ piece ∷ []
split-last text piece tail end e p t h =
    let long : length text ≤ position_or_len is_space text = grind (arith, length-drop) in
    split-none text long ∙ grind (arith, common_steps)

pub split-next : (text piece tail : List ℕ) (end : ℕ) → end ≡ position_or_len is_space text → piece ≡ take end text → tail ≡ drop end text → 0 < length tail → slice_split (λ b. b == 32) text ≡ piece ∷ slice_split (λ b. b == 32) (take (length tail - 1) (drop 1 tail))
split-next text piece tail end e p t h =
    let short : position_or_len is_space text < length text = grind (arith, length-drop) in
    slice_split_first (λ b. b == 32) text 0 short ∙ rw (p, t, e, take_rest, drop-drop) refl
