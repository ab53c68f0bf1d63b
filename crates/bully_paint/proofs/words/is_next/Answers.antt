use Rattle.std.proofs.Common.{◌≡◌, ◌++◌, length, take, drop, Some, sym, ap, ◌∙◌, take-append-drop}
use Rattle.std.proofs.lemmas.Bool.Decides.{Decides-eqb}
use Rattle.std.proofs.lemmas.Slice.Eq.{bytes_eq-Decides}
use Rattle.std.specs.Option.{option_copied}
use Rattle.std.specs.Prelude.{slice_get}
use Rattle.bully_paint.proofs.StrokeLemmas.{begins-other, begins-test}
use Rattle.bully_paint.proofs.WordLemmas.{next-read}
use Rattle.bully_paint.proofs.words.is_next.Goals as goal

pub returns-in_default-clause-begins : goal.returns-in_default-clause-begins
returns-in_default-clause-begins c = sym (begins-other c.args.text.now c.args.front.now c.args.byte c.in_default.ensures.cases)

pub returns-in-Some-first-clause-next : goal.returns-in-Some-first-clause-next
returns-in-Some-first-clause-next c = λ test.
    let text = c.args.text.now in
    let front = c.args.front.now in
    let cases = c.in-Some.ensures.cases in
    let begins : take (length front) text ≡ front = (bytes_eq-Decides _ _).0 cases.0 in
    let whole : text ≡ front ++ c.in-Some.rest.now =
    sym (take-append-drop (length front) text) ∙ ap (λ l. l ++ drop (length front) text) begins ∙ ap (λ l. front ++ l) (sym cases.1) in
    let same : c.in-Some-first.first.now ≡ c.args.byte = (Decides-eqb _ _).0 test in
    let read : slice_get c.in-Some.rest.now 0 ≡ Some c.args.byte = sym c.first.ensures.value ∙ ap option_copied c.in-Some-first.is ∙ ap Some same in
    next-read text front c.in-Some.rest.now c.args.byte whole read

pub returns-in-Some-first-clause-begins : goal.returns-in-Some-first-clause-begins
returns-in-Some-first-clause-begins c =
    let text = c.args.text.now in
    let front = c.args.front.now in
    let cases = c.in-Some.ensures.cases in
    let begins : take (length front) text ≡ front = (bytes_eq-Decides _ _).0 cases.0 in
    let whole : text ≡ front ++ c.in-Some.rest.now =
    sym (take-append-drop (length front) text) ∙ ap (λ l. l ++ drop (length front) text) begins ∙ ap (λ l. front ++ l) (sym cases.1) in
    let read : slice_get c.in-Some.rest.now 0 ≡ Some c.in-Some-first.first.now = sym c.first.ensures.value ∙ ap option_copied c.in-Some-first.is in
    begins-test text front c.in-Some.rest.now c.args.byte c.in-Some-first.first.now whole read
