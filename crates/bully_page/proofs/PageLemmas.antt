-- What a page has of its parts.
use Rattle.std.proofs.Common.{◌≡◌, ◌∙◌, ℕ, ◌++◌, Bool, true, false, List, [], ◌∷◌, Result, Ok, Err, codes, ap, refl, subst, sym}
use Rattle.std.specs.Prelude.{All, IfOk}
use Rattle.std.specs.Str.Lines.{lines}
use Rattle.std.specs.Prelude.{if◌then◌else◌}
use Rattle.std.proofs.lemmas.List.{append_assoc, append-nil}
use Rattle.std.proofs.lemmas.List.Elements.{All-cons, All-nil, All-weaker}
use Rattle.bully_picture.specs.Title.{Begins, Ends, Has}
use Rattle.bully_picture.specs.Written.{IsIn, Writes, Written}
use Rattle.bully_picture.proofs.WrittenLemmas.{has-more, has-within, writes-nothing}
use Rattle.bully_page.specs.Page.{HasLines, IsPage, line_text, lines_text, page_end, page_start, titled}

-- what a text has, one with more before it has, too
pub has-behind : (before text part : List ℕ) → Has text part → Has (before ++ text) part
has-behind before text part (front, back, is) = (before ++ front, back, ap (λ t. before ++ t) is ∙ simp append_assoc)

-- what stands first in one part and last in another are the ends of the whole
ends-whole : (start finish front picture behind : List ℕ) → Begins front start → Ends behind finish → (inside : List ℕ) × (front ++ picture ++ behind ≡ start ++ inside ++ finish)
ends-whole start finish front picture behind (more, begins) (less, ends) =
    (more ++ picture ++ less, ap (λ f. f ++ picture ++ behind) begins ∙ ap (λ b. start ++ more ++ picture ++ b) ends ∙ simp append_assoc)

pub page-ends : (front picture behind : List ℕ) → Begins front page_start → Ends behind page_end → IsPage (front ++ picture ++ behind)
page-ends front picture behind = ends-whole page_start page_end front picture behind

-- what the parts make of a text, a page of them is
pub in-page : {T E : Type 0} (bytes : T → List ℕ) (front behind : Written) (picture : List ℕ) (P : List ℕ → Type 0) (r : Result T E)
    → IfOk r (λ text. front.has_failed ≡ false) → IfOk r (λ text. behind.has_failed ≡ false) → IfOk r (λ text. bytes text ≡ front.text ++ picture ++ behind.text)
    → (front.has_failed ≡ false → behind.has_failed ≡ false → P (front.text ++ picture ++ behind.text)) → IfOk r (λ text. P (bytes text))
in-page bytes front behind picture P (Ok text) one other same holds = subst P (sym same) (holds one other)
in-page bytes front behind picture P (Err e) one other same holds = tt

-- what the part before the picture has
pub of-front : (front picture behind part : List ℕ) → Has front part → Has (front ++ picture ++ behind) part
of-front front picture behind part has = has-more part (front ++ picture) behind (has-more part front picture has)

-- the title of a window has the words of the title in it
pub has-titled : (text title : List ℕ) → Has text (titled title) → Has text title
has-titled text title has = has-within text (titled title) title has (codes "<title>", codes "</title>", refl)

pub lines-behind : (before text below : List ℕ) → HasLines text below → HasLines (before ++ text) below
lines-behind before text below has =
    All-weaker (λ line. Has text (line_text line)) (λ line. Has (before ++ text) (line_text line)) (λ line. has-behind before text (line_text line)) (lines below) has

-- what was written last ends the text
pub ends-written : {a b : Written} {p : List ℕ} → Writes a b p → IsIn b (λ text. Ends text p)
ends-written {a} {b} {p} written good = (a.text, written.text good)

-- each of the lines stands where all of them do
pub lines-has : (text : List ℕ) (them : List (List ℕ)) → Has text (lines_text them) → All (λ line. Has text (line_text line)) them
lines-has text [] has = All-nil (λ line. Has text (line_text line))
lines-has text (line ∷ them) has =
    All-cons (λ one. Has text (line_text one)) line them (has-within text (lines_text (line ∷ them)) (line_text line) has ([], lines_text them, refl))
    (lines-has text them (has-within text (lines_text (line ∷ them)) (lines_text them) has (line_text line, [], sym (append-nil (line_text line ++ lines_text them)))))

-- the whole of a page that was made of its parts
pub page-whole : {T E : Type 0} (bytes : T → List ℕ) (front behind : Written) (before picture after : List ℕ) (r : Result T E)
    → IfOk r (λ text. front.has_failed ≡ false) → IfOk r (λ text. behind.has_failed ≡ false) → IfOk r (λ text. bytes text ≡ front.text ++ picture ++ behind.text)
    → IsIn front (λ text. text ≡ before) → IsIn behind (λ text. text ≡ after) → IfOk r (λ text. bytes text ≡ before ++ picture ++ after)
page-whole bytes front behind before picture after (Ok text) one other same first last =
    same ∙ ap (λ f. f ++ picture ++ behind.text) (first one) ∙ ap (λ b. before ++ picture ++ b) (last other)
page-whole bytes front behind before picture after (Err e) one other same first last = tt

-- ---- rows

-- a row that has its place
pub row-shown : (tested is_there : Bool) (row : List ℕ) (a b : Written) → tested ≡ is_there → tested ≡ true → Writes a b row → Writes a b (if is_there then row else [])
row-shown tested is_there row a b test shown written = subst (λ c. Writes a b (if c then row else [])) (sym shown ∙ test) written

-- and one that has none
pub row-left-out : (tested is_there : Bool) (row : List ℕ) (a : Written) → tested ≡ is_there → tested ≡ false → Writes a a (if is_there then row else [])
row-left-out tested is_there row a test out = subst (λ c. Writes a a (if c then row else [])) (sym out ∙ test) (writes-nothing a)
