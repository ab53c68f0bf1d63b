-- Letters are escaped one by one.
use Rattle.std.proofs.Common.{◌≡◌, ◌∙◌, ℕ, ◌+◌, ◌<◌, ◌≤◌, ◌++◌, List, [], ◌∷◌, length, take, get_or, refl, sym, ap, arith}
use Rattle.std.proofs.lemmas.List.{append_assoc, append-nil, take_all, take_more}
use Rattle.std.proofs.lemmas.Bool.Decides.{nat_tests}
use Rattle.bully_picture.specs.Escaping.{escaped, escaped_letter, shortened}

escaped-append : (cs ds : List ℕ) → escaped (cs ++ ds) ≡ escaped cs ++ escaped ds
escaped-append [] ds = refl
escaped-append (c ∷ cs) ds = ap (λ l. escaped_letter c ++ l) (escaped-append cs ds) ∙ sym (append_assoc (escaped_letter c) (escaped cs) (escaped ds))

escaped-one : (cs : List ℕ) (c : ℕ) → escaped (cs ++ c ∷ []) ≡ escaped cs ++ escaped_letter c
escaped-one cs c = escaped-append cs (c ∷ []) ∙ ap (λ l. escaped cs ++ l) (append-nil (escaped_letter c))

-- one more letter was appended
pub letter-more : (start text new cs : List ℕ) (n c : ℕ) → text ≡ start ++ escaped (take n cs) → n < length cs → c ≡ get_or cs n c → new ≡ text ++ escaped_letter c
    → new ≡ start ++ escaped (take (n + 1) cs)
letter-more start text new cs n c so_far within is more =
    let all : take (n + 1) cs ≡ take n cs ++ c ∷ [] = take_more cs n c within ∙ ap (λ x. take n cs ++ x ∷ []) (sym is) in
    more ∙ ap (λ l. l ++ escaped_letter c) so_far ∙ append_assoc start (escaped (take n cs)) (escaped_letter c)
    ∙ ap (λ l. start ++ l) (sym (escaped-one (take n cs) c)) ∙ ap (λ l. start ++ escaped l) (sym all)

-- all letters were appended
pub letters-all : (start text cs : List ℕ) (n : ℕ) → text ≡ start ++ escaped (take n cs) → n ≡ length cs → text ≡ start ++ escaped cs
letters-all start text cs n so_far all = so_far ∙ ap (λ l. start ++ escaped l) (take_all n cs (omega (arith, all)))

-- all letters were appended, of which there aren't too many
pub start-whole : (start text cs : List ℕ) (n most : ℕ) → text ≡ start ++ escaped (take n cs) → n ≡ length cs → n ≤ most → text ≡ start ++ escaped (shortened most cs)
start-whole start text cs n most so_far all few =
    let whole : shortened most cs ≡ cs = grind (arith, nat_tests) in
    letters-all start text cs n so_far all ∙ ap (λ l. start ++ escaped l) (sym whole)

-- there are more letters than may be appended
pub start-cut : (start text new cs : List ℕ) (n most : ℕ) → text ≡ start ++ escaped (take n cs) → n < length cs → n ≤ most → most ≤ n → new ≡ text ++ escaped_letter 8230
    → new ≡ start ++ escaped (shortened most cs)
start-cut start text new cs n most so_far more low high dots =
    let same : n ≡ most = omega (arith, low, high) in
    let cut : shortened most cs ≡ take n cs ++ 8230 ∷ [] = grind (arith, nat_tests) in
    dots ∙ ap (λ l. l ++ escaped_letter 8230) so_far ∙ append_assoc start (escaped (take n cs)) (escaped_letter 8230)
    ∙ ap (λ l. start ++ l) (sym (escaped-one (take n cs) 8230)) ∙ ap (λ l. start ++ escaped l) (sym cut)
