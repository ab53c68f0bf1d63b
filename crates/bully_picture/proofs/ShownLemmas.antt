-- The rows of a picture that are shown: their numbers and their texts.
use Rattle.std.proofs.Common.{◌≡◌, ◌∙◌, ap, get_or, take, ℕ, ◌+◌, ◌-◌, ◌<◌, ◌≤◌, Bool, true, false, ◌++◌, List, [], ◌∷◌, Some, None, length, refl, sym, subst, arith, cond}
use Rattle.std.proofs.lemmas.List.{append_assoc, append-nil, length-append, take_all}
use Rattle.std.proofs.Math.Seq.{get_or-append_seam, take-append_seam}
use Rattle.std.proofs.lemmas.List.Elements.{All-push, All-weaker, filter_more}
use Rattle.std.specs.List.{join_with_byte}
use Rattle.std.specs.Prelude.{codes, filter, slice_index}
use Rattle.bully_rows.specs.declared.trace.Row.{Row}
use Rattle.bully_rows.specs.TraceText.{row_fields}
use Rattle.bully_trace.specs.declared.verdict.Verdict.{Verdict}
use Rattle.bully_film.specs.declared.scene.Scene.{Scene}
use Rattle.bully_picture.specs.declared.claims.Claims.{Claims}
use Rattle.bully_picture.specs.Drawn.{AreNumbers, HasRows, HasSaid, HasText, bare_text, colour_of, is_shown, number_text, said_text, scenes_shown, tail_text}
use Rattle.bully_trace.specs.OneRow.{decides}
use Rattle.bully_picture.specs.Escaping.{cut_text}
use Rattle.bully_picture.specs.Title.{Has}
use Rattle.bully_picture.specs.Written.{Extends, Gains, IsCopied, IsIn, Writes, Written, blank}
use Rattle.bully_picture.proofs.WrittenLemmas.{extends-then, extends-written, has-more, has-within, has-written, writes-then}

-- ---- which rows are shown

shown-more : (claims : Claims) (verdict : Verdict) (scenes : List Scene) (i : ℕ) (s : Scene) (tested : Bool) → i < length scenes → s ≡ get_or scenes i s
    → tested ≡ is_shown claims verdict s → tested ≡ true → scenes_shown claims verdict (take i scenes) ++ s ∷ [] ≡ scenes_shown claims verdict (take (i + 1) scenes)
shown-more claims verdict scenes i s tested within is test stands =
    let p : Scene → Bool = is_shown claims verdict in
    sym (filter_more p scenes i s within ∙ ap (λ o. filter p (take i scenes) ++ cond (p o) (o ∷ []) []) (sym is)
    ∙ ap (λ b. filter p (take i scenes) ++ cond b (s ∷ []) []) (sym test ∙ stands))

shown-none : (claims : Claims) (verdict : Verdict) (scenes : List Scene) (i : ℕ) (s : Scene) (tested : Bool) → i < length scenes → s ≡ get_or scenes i s
    → tested ≡ is_shown claims verdict s → tested ≡ false → scenes_shown claims verdict (take i scenes) ≡ scenes_shown claims verdict (take (i + 1) scenes)
shown-none claims verdict scenes i s tested within is test no_line =
    let p : Scene → Bool = is_shown claims verdict in
    sym (filter_more p scenes i s within ∙ ap (λ o. filter p (take i scenes) ++ cond (p o) (o ∷ []) []) (sym is)
    ∙ ap (λ b. filter p (take i scenes) ++ cond b (s ∷ []) []) (sym test ∙ no_line) ∙ append-nil (filter p (take i scenes)))

-- ---- their numbers

numbers-push : (verdict : Verdict) (scenes : List Scene) (text : List ℕ) (s : Scene) (y : ℕ) → AreNumbers verdict scenes text
    → AreNumbers verdict (scenes ++ s ∷ []) (text ++ number_text y (decides verdict s.number) s.number)
numbers-push verdict [] text s y is =
    let number = number_text y (decides verdict s.number) s.number in
    (y, [], ap (λ t. t ++ number) is ∙ sym (append-nil number), refl)
numbers-push verdict (first ∷ scenes) text s y (height, rest, is, are) =
    let number = number_text y (decides verdict s.number) s.number in
    let before = number_text height (decides verdict first.number) first.number in
    (height, rest ++ number, ap (λ t. t ++ number) is ∙ append_assoc before rest number, numbers-push verdict scenes rest s y are)

-- one more row has its number
pub numbers-more : (claims : Claims) (verdict : Verdict) (scenes : List Scene) (i : ℕ) (s : Scene) (tested d : Bool) (y : ℕ) (a b : Written) → i < length scenes → s ≡ get_or scenes i s
    → tested ≡ is_shown claims verdict s → tested ≡ true → d ≡ decides verdict s.number
    → IsIn a (AreNumbers verdict (scenes_shown claims verdict (take i scenes))) → Writes a b (number_text y d s.number)
    → IsIn b (AreNumbers verdict (scenes_shown claims verdict (take (i + 1) scenes)))
numbers-more claims verdict scenes i s tested d y a b within is test stands decided so_far written good =
    let shown = scenes_shown claims verdict (take i scenes) in
    let text : a.text ++ number_text y (decides verdict s.number) s.number ≡ b.text = sym (written.text good ∙ ap (λ k. a.text ++ number_text y k s.number) decided) in
    subst (λ t. AreNumbers verdict (scenes_shown claims verdict (take (i + 1) scenes)) t) text
    (subst (λ l. AreNumbers verdict l (a.text ++ number_text y (decides verdict s.number) s.number)) (shown-more claims verdict scenes i s tested within is test stands)
    (numbers-push verdict shown a.text s y (so_far (written.memory good))))

-- one more row is left out
pub numbers-none : (claims : Claims) (verdict : Verdict) (scenes : List Scene) (i : ℕ) (s : Scene) (tested : Bool) (a : Written) → i < length scenes → s ≡ get_or scenes i s
    → tested ≡ is_shown claims verdict s → tested ≡ false → IsIn a (AreNumbers verdict (scenes_shown claims verdict (take i scenes)))
    → IsIn a (AreNumbers verdict (scenes_shown claims verdict (take (i + 1) scenes)))
numbers-none claims verdict scenes i s tested a within is test no_line so_far =
    subst (λ l. IsIn a (AreNumbers verdict l)) (shown-none claims verdict scenes i s tested within is test no_line) so_far

pub numbers-all : (claims : Claims) (verdict : Verdict) (xs scenes : List Scene) (i : ℕ) (a : Written) → length xs ≤ i → xs ≡ scenes
    → IsIn a (AreNumbers verdict (scenes_shown claims verdict (take i xs))) → IsIn a (AreNumbers verdict (scenes_shown claims verdict scenes))
numbers-all claims verdict xs scenes i a all same so_far = subst (λ l. IsIn a (AreNumbers verdict (scenes_shown claims verdict l))) (take_all i xs all ∙ same) so_far

-- they stand in a text to which they are copied
pub rows-copied : (text : List ℕ) (paper : Written) (verdict : Verdict) (scenes : List Scene) → IsCopied paper text → IsIn paper (AreNumbers verdict scenes) → HasRows text verdict scenes
rows-copied text paper verdict scenes (good, within) are = (paper.text, within, are good)

-- ---- their texts

-- the row's text with so many letters, and what stands behind it
abbrev pub whole_text : ℕ → Bool → Bool → Scene → List ℕ
whole_text letters has_room is_decided s =
    codes " fill=\"" ++ colour_of is_decided (codes "#555") ++ codes "\">" ++ cut_text letters (said_text s) ++ tail_text has_room is_decided s ++ codes "</text>\n"

said-longer : (text more : List ℕ) (verdict : Verdict) (scenes : List Scene) → HasSaid text verdict scenes → HasSaid (text ++ more) verdict scenes
said-longer text more verdict scenes has =
    All-weaker (λ s. HasText text (decides verdict s.number) s) (λ s. HasText (text ++ more) (decides verdict s.number) s)
    (λ s one. (one.0, one.1, has-more (whole_text one.0 one.1 (decides verdict s.number) s) text more one.2)) scenes has

pub said-copied : (text : List ℕ) (paper : Written) (verdict : Verdict) (scenes : List Scene) → IsCopied paper text → IsIn paper (λ t. HasSaid t verdict scenes) → HasSaid text verdict scenes
said-copied text paper verdict scenes (good, within) has =
    All-weaker (λ s. HasText paper.text (decides verdict s.number) s) (λ s. HasText text (decides verdict s.number) s)
    (λ s one. (one.0, one.1, has-within text paper.text (whole_text one.0 one.1 (decides verdict s.number) s) within one.2)) scenes (has good)

-- one more row has its text
pub said-more : (claims : Claims) (verdict : Verdict) (scenes : List Scene) (i : ℕ) (s : Scene) (tested d : Bool) (a b : Written) → i < length scenes → s ≡ get_or scenes i s
    → tested ≡ is_shown claims verdict s → tested ≡ true → d ≡ decides verdict s.number
    → IsIn a (λ text. HasSaid text verdict (scenes_shown claims verdict (take i scenes))) → Gains a b (λ text. HasText text d s)
    → IsIn b (λ text. HasSaid text verdict (scenes_shown claims verdict (take (i + 1) scenes)))
said-more claims verdict scenes i s tested d a b within is test stands decided so_far gained good =
    let shown = scenes_shown claims verdict (take i scenes) in
    let grown = gained.extends.text good in
    let before : HasSaid b.text verdict shown =
    subst (λ t. HasSaid t verdict shown) (sym grown.1) (said-longer a.text grown.0 verdict shown (so_far (gained.extends.memory good))) in
    let here : HasText b.text (decides verdict s.number) s = subst (λ k. HasText b.text k s) decided (gained.holds good) in
    subst (λ l. HasSaid b.text verdict l) (shown-more claims verdict scenes i s tested within is test stands)
    (All-push (λ (one : Scene). HasText b.text (decides verdict one.number) one) shown s before here)

-- one more row is left out
pub said-none : (claims : Claims) (verdict : Verdict) (scenes : List Scene) (i : ℕ) (s : Scene) (tested : Bool) (a : Written) → i < length scenes → s ≡ get_or scenes i s
    → tested ≡ is_shown claims verdict s → tested ≡ false → IsIn a (λ text. HasSaid text verdict (scenes_shown claims verdict (take i scenes)))
    → IsIn a (λ text. HasSaid text verdict (scenes_shown claims verdict (take (i + 1) scenes)))
said-none claims verdict scenes i s tested a within is test no_line so_far =
    subst (λ l. IsIn a (λ text. HasSaid text verdict l)) (shown-none claims verdict scenes i s tested within is test no_line) so_far

pub said-all : (claims : Claims) (verdict : Verdict) (xs scenes : List Scene) (i : ℕ) (a : Written) → length xs ≤ i → xs ≡ scenes
    → IsIn a (λ text. HasSaid text verdict (scenes_shown claims verdict (take i xs))) → IsIn a (λ text. HasSaid text verdict (scenes_shown claims verdict scenes))
said-all claims verdict xs scenes i a all same so_far =
    subst (λ l. IsIn a (λ text. HasSaid text verdict (scenes_shown claims verdict l))) (take_all i xs all ∙ same) so_far

-- what was written on a paper of its own
on-paper : (empty paper : Written) (line : List ℕ) → paper.has_failed ≡ false → empty ≡ blank → Writes empty paper line → paper.text ≡ line
on-paper empty paper line good none said = said.text good ∙ ap (λ (p : Written). p.text ++ line) none

-- what a row says was written on a paper of its own, and as much of it as there is room for behind this head; then what stands behind it
pub text-gained : {start placed written tailed end empty paper bare tail : Written} (head line : List ℕ) (behind : Bool → List ℕ) (letters : ℕ) (has_room : Bool) → Extends start placed
    → Writes placed written (head ++ cut_text letters paper.text) → (written.has_failed ≡ false → paper.has_failed ≡ false) → empty ≡ blank → Writes empty paper line
    → Writes written tailed tail.text → (tailed.has_failed ≡ false → tail.has_failed ≡ false) → bare ≡ blank → Writes bare tail (behind has_room)
    → Writes tailed end (codes "</text>\n")
    → Gains start end (λ text. (n : ℕ) × (room : Bool) × Has text (head ++ cut_text n line ++ behind room ++ codes "</text>\n"))
text-gained {start} {placed} {written} {tailed} {end} {empty} {paper} {bare} {tail} head line behind letters has_room place writes whole none said copied tail_whole no_tail tail_said last = record {
  extends = extends-then place (extends-then (extends-written writes) (extends-then (extends-written copied) (extends-written last)));
  holds = λ good.
      let on = last.memory good in
      let line_is : paper.text ≡ line = on-paper empty paper line (whole (copied.memory on)) none said in
      let tail_is : tail.text ≡ behind has_room = on-paper bare tail (behind has_room) (tail_whole on) no_tail tail_said in (
        letters,
        has_room,
        subst (λ t. Has end.text (head ++ cut_text letters line ++ t ++ codes "</text>\n")) tail_is
            (subst (λ l. Has end.text (head ++ cut_text letters l ++ tail.text ++ codes "</text>\n")) line_is
            ((has-written (writes-then (writes-then writes copied) last)).holds good)),
      );
}

-- ---- what a row says

pub said-whole : (s : Scene) (row : Row) → s.said ≡ Some row → said_text s ≡ join_with_byte 44 (row_fields row)
said-whole s row is = ap (λ said. elim said as (λ _. List ℕ) [ None ↦ bare_text s.event_kind s.own.node | Some r ↦ join_with_byte 44 (row_fields r) ]) is

pub said-bare : (s : Scene) → s.said ≡ None → said_text s ≡ bare_text s.event_kind s.own.node
said-bare s is = ap (λ said. elim said as (λ _. List ℕ) [ None ↦ bare_text s.event_kind s.own.node | Some r ↦ join_with_byte 44 (row_fields r) ]) is

-- a line of a trace without its end
pub line-cut : (bytes cut start fields : List ℕ) (len : ℕ) → len ≡ length bytes → bytes ≡ start ++ (fields ++ codes "\n")
    → (0 < len → slice_index bytes (len - 1) < 128 → cut ≡ take (len - 1) bytes) → cut ≡ start ++ fields
line-cut bytes cut start fields len counted is pop =
    let front = start ++ fields in
    let whole : bytes ≡ front ++ 10 ∷ [] = is ∙ sym (append_assoc start fields (codes "\n")) in
    let long : len ≡ length front + 1 = counted ∙ ap length whole ∙ length-append front (10 ∷ []) in
    let last : len - 1 ≡ length front = omega (arith, long) in
    let end : slice_index bytes (len - 1) ≡ 10 = ap (λ b. slice_index b (len - 1)) whole ∙ ap (slice_index (front ++ 10 ∷ [])) last ∙ get_or-append_seam front 10 [] 0 in
    pop (omega (arith, long)) (omega (arith, end)) ∙ ap (take (len - 1)) whole ∙ ap (λ k. take k (front ++ 10 ∷ [])) last ∙ take-append_seam front (10 ∷ [])
