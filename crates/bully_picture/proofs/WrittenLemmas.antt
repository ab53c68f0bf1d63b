-- What stands on a paper behind several writes.
use Rattle.std.proofs.Common.{◌≡◌, ◌∙◌, ℕ, ◌+◌, ◌<◌, ◌≤◌, ◌++◌, List, [], ◌∷◌, false, Result, Ok, Err, codes, get_or, length, take, refl, sym, ap, subst}
use Rattle.std.specs.Prelude.{All, IfOk}
use Rattle.std.specs.List.{flat_map}
use Rattle.std.proofs.lemmas.List.{append_assoc, append-nil, flat_map_more, take_all, take_more}
use Rattle.std.proofs.lemmas.List.Elements.{All-more, All-weaker}
use Rattle.bully_picture.specs.Title.{Begins, Has, IsDocument}
use Rattle.bully_picture.specs.Written.{Extends, Gains, IsCopied, IsIn, Writes, Written, blank}

-- a text that grows has what it had
pub has-more : (part text more : List ℕ) → Has text part → Has (text ++ more) part
has-more part text more (before, behind, is) = (before, behind ++ more, ap (λ t. t ++ more) is ∙ append_assoc (before ++ part) behind more)

-- a text has what a part of it has
pub has-within : (text middle part : List ℕ) → Has text middle → Has middle part → Has text part
has-within text middle part (before, behind, is) (front, back, within) =
    (before ++ front, back ++ behind, is ∙ ap (λ m. before ++ m ++ behind) within ∙ simp append_assoc)

-- two writes are one
pub writes-then : {a b c : Written} {p q : List ℕ} → Writes a b p → Writes b c q → Writes a c (p ++ q)
writes-then {a} {b} {c} {p} {q} first second = record {
  memory = λ good. first.memory (second.memory good);
  text = λ good. second.text good ∙ ap (λ t. t ++ q) (first.text (second.memory good)) ∙ append_assoc a.text p q;
}

pub extends-written : {a b : Written} {p : List ℕ} → Writes a b p → Extends a b
extends-written {a} {b} {p} written = record { memory = written.memory; text = λ good. (p, written.text good) }

pub has-written : {a b : Written} {p : List ℕ} → Writes a b p → Gains a b (λ text. Has text p)
has-written {a} {b} {p} written = record {
  extends = extends-written written;
  holds = λ good. (a.text, [], written.text good ∙ sym (append-nil (a.text ++ p)));
}

pub extends-same : (a : Written) → Extends a a
extends-same a = record { memory = λ good. good; text = λ good. ([], sym (append-nil a.text)) }

pub extends-then : {a b c : Written} → Extends a b → Extends b c → Extends a c
extends-then {a} {b} {c} first second = record {
  memory = λ good. first.memory (second.memory good);
  text = λ good.
      let s = second.text good in
      let f = first.text (second.memory good) in
      (f.0 ++ s.0, s.1 ∙ ap (λ t. t ++ s.0) f.1 ∙ append_assoc a.text f.0 s.0);
}

-- every text has no letters
pub nothing-gained : (a : Written) → Gains a a (λ text. Has text [])
nothing-gained a = record { extends = extends-same a; holds = λ good. ([], a.text, refl) }

-- what is so after a second step
pub gains-later : {a b c : Written} {P : List ℕ → Type 0} → Extends a b → Gains b c P → Gains a c P
gains-later first second = record { extends = extends-then first second.extends; holds = second.holds }

-- what was so after the first one
pub gains-still : {a b c : Written} (P : List ℕ → Type 0) → ((text more : List ℕ) → P text → P (text ++ more)) → Gains a b P → Extends b c → Gains a c P
gains-still {a} {b} {c} P kept first second = record {
  extends = extends-then first.extends second;
  holds = λ good.
      let s = second.text good in
      subst P (sym s.1) (kept b.text s.0 (first.holds (second.memory good)));
}

-- one more of these has what it has to have in the text
pub one-more : {X : Type 0} (P : List ℕ → X → Type 0) → ((text more : List ℕ) (x : X) → P text x → P (text ++ more) x) → (xs : List X) (i : ℕ) (x : X) (a b : Written)
    → i < length xs → x ≡ get_or xs i x → IsIn a (λ text. All (P text) (take i xs)) → Gains a b (λ text. P text x) → IsIn b (λ text. All (P text) (take (i + 1) xs))
one-more P kept xs i x a b within is so_far gained good =
    let grown = gained.extends.text good in
    let before : All (P b.text) (take i xs) =
    subst (λ t. All (P t) (take i xs)) (sym grown.1)
    (All-weaker (P a.text) (P (a.text ++ grown.0)) (kept a.text grown.0) (take i xs) (so_far (gained.extends.memory good))) in
    All-more (P b.text) xs i x within before (subst (P b.text) is (gained.holds good))

-- the same behind what was written before
pub one-gained : {X : Type 0} (P : List ℕ → X → Type 0) → ((text more : List ℕ) (x : X) → P text x → P (text ++ more) x) → (xs : List X) (i : ℕ) (x : X) (start a b : Written)
    → i < length xs → x ≡ get_or xs i x → Gains start a (λ text. All (P text) (take i xs)) → Gains a b (λ text. P text x) → Gains start b (λ text. All (P text) (take (i + 1) xs))
one-gained P kept xs i x start a b within is so_far gained = record {
  extends = extends-then so_far.extends gained.extends;
  holds = one-more P kept xs i x a b within is so_far.holds gained;
}

-- nothing was written
pub writes-nothing : (a : Written) → Writes a a []
writes-nothing a = record { memory = λ good. good; text = λ good. sym (append-nil a.text) }

-- a write, as another text that is the same
pub writes-as : {a b : Written} {p q : List ℕ} → p ≡ q → Writes a b p → Writes a b q
writes-as {a} {b} same written = subst (Writes a b) same written

-- pieces of these things, one after the other, up to one more
pub pieces-more : {X : Type 0} (piece : X → List ℕ) (xs : List X) (k : ℕ) (x : X) (start a b : Written) → k < length xs → x ≡ get_or xs k x
    → Writes start a (flat_map piece (take k xs)) → Writes a b (piece x) → Writes start b (flat_map piece (take (k + 1) xs))
pieces-more {X} piece xs k x start a b within is so_far written =
    let grown : take k xs ++ x ∷ [] ≡ take (k + 1) xs = ap (λ (one : X). take k xs ++ one ∷ []) is ∙ sym (take_more xs k x within) in
    writes-as (flat_map_more piece [] (take k xs) x ∙ ap (flat_map piece) grown) (writes-then so_far written)

-- and all of them
pub pieces-all : {X : Type 0} (piece : X → List ℕ) (xs : List X) (k : ℕ) (start a : Written) → length xs ≤ k → Writes start a (flat_map piece (take k xs)) → Writes start a (flat_map piece xs)
pieces-all piece xs k start a all so_far = writes-as (ap (flat_map piece) (take_all k xs all)) so_far

-- what was written still stands there behind a second step
pub written-in : {a b c : Written} {p : List ℕ} → Writes a b p → Extends b c → IsIn c (λ text. Has text p)
written-in {a} {b} {c} {p} written behind = (gains-still (λ text. Has text p) (has-more p) (has-written written) behind).holds

-- so does what was copied from another paper
pub copied-in : {a b c : Written} (p : Written) → Writes a b p.text → (b.has_failed ≡ false → p.has_failed ≡ false) → Extends b c → IsIn c (IsCopied p)
copied-in {a} {b} {c} p written whole behind good = (whole (behind.memory good), written-in written behind good)

pub copied-still : {b c : Written} (p : Written) → IsIn b (IsCopied p) → Extends b c → IsIn c (IsCopied p)
copied-still {b} {c} p copied behind good =
    let grown = behind.text good in
    let was = copied (behind.memory good) in
    (was.0, subst (λ t. Has t p.text) (sym grown.1) (has-more p.text b.text grown.0 was.1))

-- what is written first begins the whole
pub begins-written : {a b c : Written} {p : List ℕ} → a ≡ blank → Writes a b p → Extends b c → IsIn c (λ text. Begins text p)
begins-written {a} {b} {c} {p} empty written behind good =
    let grown = behind.text good in
    (grown.0, grown.1 ∙ ap (λ t. t ++ grown.0) (written.text (behind.memory good) ∙ ap (λ w. w.text ++ p) empty))

-- what was written on an empty paper is all that stands there
pub written-whole : {a b : Written} {p : List ℕ} → a ≡ blank → Writes a b p → IsIn b (λ text. text ≡ p)
written-whole {a} {b} {p} empty written good = written.text good ∙ ap (λ (w : Written). w.text ++ p) empty

-- a document has its ends
pub document : {a b c d : Written} → a ≡ blank → Writes a b (codes "<svg xmlns=\"http://www.w3.org/2000/svg\"") → Extends b c → Writes c d (codes "</svg>\n") → IsIn d IsDocument
document {a} {b} {c} {d} empty first middle last good =
    let begun = begins-written empty first middle (last.memory good) in
    (begun.0, last.text good ∙ ap (λ t. t ++ codes "</svg>\n") begun.1)

-- what stands on a paper stands in the text that it becomes
pub in-text : {T E : Type 0} (bytes : T → List ℕ) (paper : Written) (P : List ℕ → Type 0) (r : Result T E) → IfOk r (λ text. paper.has_failed ≡ false)
    → IfOk r (λ text. bytes text ≡ paper.text) → IsIn paper P → IfOk r (λ text. P (bytes text))
in-text bytes paper P (Ok text) whole same holds = subst P (sym same) (holds whole)
in-text bytes paper P (Err e) whole same holds = tt
