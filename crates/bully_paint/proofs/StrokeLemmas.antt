-- What goes out at each byte.
use Rattle.std.proofs.Common.{◌≡◌, ◌∙◌, ℕ, ◌+◌, ◌<◌, ◌≤◌, ◌==◌, ◌||◌, not, Bool, true, false, List, [], ◌∷◌, ◌++◌, Option, Some, None, Result, Ok, Err, IfOk, append_assoc, append-nil, refl, sym, ap, subst, if◌then◌else◌, codes, drop, length, get_or, slice_get, take, zero, suc, length-append, arith}
use Rattle.std.proofs.lemmas.Bool.Decides.{Decides-eqb, nat_tests}
use Rattle.std.proofs.lemmas.Slice.Eq.{bytes_eq-Decides}
use Rattle.std.specs.Io.KnownBytes.{Appends, Keeps, append_known}
use Rattle.std.specs.Str.{bytes_eq}
use Rattle.bully_paint.specs.Strokes.{Brush, PaintsWords, Stroke, begins, begun, clean, goes_within, is_escape, joins, joins_title, passed, stroke, strokes}
use Rattle.bully_paint.specs.Words.{ending_of, is_separator, painting_of, text_of}
use Rattle.bully_paint.specs.declared.words.Word.{Word}
use Rattle.bully_paint.proofs.TextLemmas.{appends-none, keeps_appends, keeps_keeps, keeps_none}
use Rattle.bully_paint.proofs.WordLemmas.{next-read}

-- ---- which stroke it is

pub stroke-joins : (brush : Brush) (b : ℕ) → joins brush b ≡ true → stroke brush b ≡ record { out = []; brush = record brush { held = brush.held ++ b ∷ [] } }
stroke-joins brush b is = rw is refl

pub stroke-titled : (brush : Brush) (b : ℕ) → joins brush b ≡ false → joins_title brush.held b ≡ true
    → stroke brush b ≡ record { out = codes "the "; brush = record brush { held = drop 4 brush.held ++ b ∷ [] } }
stroke-titled brush b is titled = rw (is, titled) refl

pub stroke-begun : (brush : Brush) (b : ℕ) → joins brush b ≡ false → joins_title brush.held b ≡ false
    → stroke brush b ≡ begun (ending_of brush.held b) (goes_within brush.within brush.held) b
stroke-begun brush b is titled = rw (is, titled) refl

-- ---- words

-- what parts words is one of these
one-of : (P : ℕ → Type 0) (b k : ℕ) (rest : Bool) → (rest ≡ true → P b) → P k → (rest || b == k) ≡ true → P b
one-of P b k rest more here is = by_test rest refl is
  where
    by_test : (t : Bool) → rest ≡ t → (t || b == k) ≡ true → P b
    by_test true same is = more same
    by_test false other is = let at : k ≡ b = grind (arith, nat_tests, is) in subst P at here

separated : (P : ℕ → Type 0) (b : ℕ) → P 32 → P 10 → P 44 → P 58 → P 59 → P 40 → P 41 → is_separator b ≡ true → P b
separated P b space line comma colon semicolon opening closing =
    one-of P b 41 (b == 32 || b == 10 || b == 44 || b == 58 || b == 59 || b == 40)
    (one-of P b 40 (b == 32 || b == 10 || b == 44 || b == 58 || b == 59)
    (one-of P b 59 (b == 32 || b == 10 || b == 44 || b == 58)
    (one-of P b 58 (b == 32 || b == 10 || b == 44) (one-of P b 44 (b == 32 || b == 10) (one-of P b 10 (b == 32) (one-of P b 32 false (λ is. absurd (cc is)) space) line) comma) colon) semicolon) opening) closing

-- at this byte
abbrev Ends : ℕ → Type 0
Ends b = (word : Word) → strokes clean (text_of word ++ b ∷ []) ≡ record { out = painting_of word ++ b ∷ []; brush = clean }

at-space : Ends 32
at-space Word.Lawful = refl
at-space Word.Refused = refl
at-space Word.Differs = refl
at-space Word.Election = refl
at-space Word.Reorganization = refl
at-space Word.Normal = refl
at-space Word.Down = refl
at-space Word.Rule = refl
at-space Word.Step = refl
at-space Word.Fault = refl
at-space Word.Mistake = refl

at-line : Ends 10
at-line Word.Lawful = refl
at-line Word.Refused = refl
at-line Word.Differs = refl
at-line Word.Election = refl
at-line Word.Reorganization = refl
at-line Word.Normal = refl
at-line Word.Down = refl
at-line Word.Rule = refl
at-line Word.Step = refl
at-line Word.Fault = refl
at-line Word.Mistake = refl

at-comma : Ends 44
at-comma Word.Lawful = refl
at-comma Word.Refused = refl
at-comma Word.Differs = refl
at-comma Word.Election = refl
at-comma Word.Reorganization = refl
at-comma Word.Normal = refl
at-comma Word.Down = refl
at-comma Word.Rule = refl
at-comma Word.Step = refl
at-comma Word.Fault = refl
at-comma Word.Mistake = refl

at-colon : Ends 58
at-colon Word.Lawful = refl
at-colon Word.Refused = refl
at-colon Word.Differs = refl
at-colon Word.Election = refl
at-colon Word.Reorganization = refl
at-colon Word.Normal = refl
at-colon Word.Down = refl
at-colon Word.Rule = refl
at-colon Word.Step = refl
at-colon Word.Fault = refl
at-colon Word.Mistake = refl

at-semicolon : Ends 59
at-semicolon Word.Lawful = refl
at-semicolon Word.Refused = refl
at-semicolon Word.Differs = refl
at-semicolon Word.Election = refl
at-semicolon Word.Reorganization = refl
at-semicolon Word.Normal = refl
at-semicolon Word.Down = refl
at-semicolon Word.Rule = refl
at-semicolon Word.Step = refl
at-semicolon Word.Fault = refl
at-semicolon Word.Mistake = refl

at-opening : Ends 40
at-opening Word.Lawful = refl
at-opening Word.Refused = refl
at-opening Word.Differs = refl
at-opening Word.Election = refl
at-opening Word.Reorganization = refl
at-opening Word.Normal = refl
at-opening Word.Down = refl
at-opening Word.Rule = refl
at-opening Word.Step = refl
at-opening Word.Fault = refl
at-opening Word.Mistake = refl

at-closing : Ends 41
at-closing Word.Lawful = refl
at-closing Word.Refused = refl
at-closing Word.Differs = refl
at-closing Word.Election = refl
at-closing Word.Reorganization = refl
at-closing Word.Normal = refl
at-closing Word.Down = refl
at-closing Word.Rule = refl
at-closing Word.Step = refl
at-closing Word.Fault = refl
at-closing Word.Mistake = refl

pub paints-words : PaintsWords
paints-words word b is = separated Ends b at-space at-line at-comma at-colon at-semicolon at-opening at-closing is word

-- ---- fronts

front-size : (front : List ℕ) (b : ℕ) → length (front ++ b ∷ []) ≡ length front + 1
front-size front b = length-append front (b ∷ [])

-- a text that begins with a front and a byte begins with the front
front-first : (text front : List ℕ) (b : ℕ) → take (length (front ++ b ∷ [])) text ≡ front ++ b ∷ [] → take (length front) text ≡ front
front-first text [] b is = refl
front-first [] (a ∷ front) b is = absurd (cc is)
front-first (x ∷ text) (a ∷ front) b is =
    let first : x ≡ a = cc is in
    let rest : take (length (front ++ b ∷ [])) text ≡ front ++ b ∷ [] = cc is in
    ap (λ (l : List ℕ). x ∷ l) (front-first text front b rest) ∙ ap (λ (n : ℕ). n ∷ front) first

-- and has the byte behind it
front-next : (front rest : List ℕ) (b : ℕ) → take (length (front ++ b ∷ [])) (front ++ rest) ≡ front ++ b ∷ [] → slice_get rest 0 ≡ Some b
front-next [] [] b is = absurd (cc is)
front-next [] (x ∷ rest) b is = let same : x ≡ b = cc is in ap Some same
front-next (a ∷ front) rest b is = front-next front rest b (let tail : take (length (front ++ b ∷ [])) (front ++ rest) ≡ front ++ b ∷ [] = cc is in tail)

begins-not : (text front : List ℕ) → (take (length front) text ≡ front → ⊥) → begins text front ≡ false
begins-not text front never = by_test (bytes_eq (take (length front) text) front) refl
  where
    by_test : (t : Bool) → bytes_eq (take (length front) text) front ≡ t → t ≡ false
    by_test true is = absurd (never ((bytes_eq-Decides (take (length front) text) front).0 is))
    by_test false is = refl

-- the text has no such front
pub begins-other : (text front : List ℕ) (b : ℕ) → bytes_eq (take (length front) text) front ≡ false → begins text (front ++ b ∷ []) ≡ false
begins-other text front b other = begins-not text (front ++ b ∷ []) (λ is.
    let same : bytes_eq (take (length front) text) front ≡ true = (bytes_eq-Decides (take (length front) text) front).1 (front-first text front b is) in
    absurd (cc (sym other ∙ same)))

-- another byte is behind it, or none
pub begins-apart : (text front rest : List ℕ) (b : ℕ) → text ≡ front ++ rest → (slice_get rest 0 ≡ Some b → ⊥) → begins text (front ++ b ∷ []) ≡ false
begins-apart text front rest b same other = begins-not text (front ++ b ∷ []) (λ is.
    other (front-next front rest b (ap (take (length (front ++ b ∷ []))) (sym same) ∙ is)))

-- this byte is
pub begins-on : (text front : List ℕ) (b : ℕ) → take (length front + 1) text ≡ front ++ b ∷ [] → begins text (front ++ b ∷ []) ≡ true
begins-on text front b is =
    (bytes_eq-Decides (take (length (front ++ b ∷ [])) text) (front ++ b ∷ [])).1 (ap (λ (n : ℕ). take n text) (front-size front b) ∙ is)

-- whether the byte behind the front is this one
pub begins-test : (text front rest : List ℕ) (b first : ℕ) → text ≡ front ++ rest → slice_get rest 0 ≡ Some first → (first == b) ≡ begins text (front ++ b ∷ [])
begins-test text front rest b first whole at = by_test (first == b) refl
  where
    by_test : (t : Bool) → (first == b) ≡ t → t ≡ begins text (front ++ b ∷ [])
    by_test true is =
        let same : first ≡ b = (Decides-eqb first b).0 is in
        sym (begins-on text front b (next-read text front rest b whole (at ∙ ap Some same)).1)
    by_test false is = sym (begins-apart text front rest b whole (λ there.
        let same : first ≡ b = cc (sym at ∙ there) in
        absurd (cc (sym is ∙ (Decides-eqb first b).1 same))))

-- ---- one byte of a writer, by what goes out and the brush

-- this goes out, and the brush is this one behind it
abbrev pub Goes : Option (List ℕ) → Option (List ℕ) → Brush → Stroke → Type 0
Goes a a' brush' s = Appends a a' s.out × (brush' ≡ s.brush)

appends-both : (a b c : Option (List ℕ)) (xs ys : List ℕ) → Appends a b xs → Appends b c ys → Appends a c (xs ++ ys)
appends-both None b c xs ys h k = tt
appends-both (Some a) None c xs ys h k = absurd h
appends-both (Some a) (Some b) None xs ys h k = absurd k
appends-both (Some a) (Some b) (Some c) xs ys h k = k ∙ ap (λ l. l ++ ys) h ∙ append_assoc a xs ys

appends-kept : (a b c : Option (List ℕ)) (xs : List ℕ) → Appends a b xs → Keeps b c → Appends a c xs
appends-kept a b c xs h k = subst (Appends a c) (append-nil xs) (appends-both a b c xs [] h (keeps_none b c k))

-- the stroke of this brush
goes-stroke : (a a' : Option (List ℕ)) (brush brush' now : Brush) (b : ℕ) (s : Stroke) → now ≡ brush → stroke now b ≡ s → Goes a a' brush' s → Goes a a' brush' (stroke brush b)
goes-stroke a a' brush brush' now b s same is goes = subst (Goes a a' brush') (sym is ∙ ap (λ (x : Brush). stroke x b) same) goes

-- the byte is held back
pub goes-held : (a a' : Option (List ℕ)) (brush brush' : Brush) (b : ℕ) → joins brush b ≡ true → Goes a a' brush' (record { out = []; brush = record brush { held = brush.held ++ b ∷ [] } })
    → Goes a a' brush' (stroke brush b)
goes-held a a' brush brush' b joined goes = subst (Goes a a' brush') (sym (stroke-joins brush b joined)) goes

-- an article goes out
pub goes-titled : (a a' : Option (List ℕ)) (brush brush' : Brush) (b : ℕ) → joins brush b ≡ false → joins_title brush.held b ≡ true
    → Goes a a' brush' (record { out = codes "the "; brush = record brush { held = drop 4 brush.held ++ b ∷ [] } }) → Goes a a' brush' (stroke brush b)
goes-titled a a' brush brush' b none joined goes = subst (Goes a a' brush') (sym (stroke-titled brush b none joined)) goes

-- behind what kept all
pub goes-behind : (a0 a1 a2 : Option (List ℕ)) (brush0 brush1 brush2 : Brush) (b : ℕ) → Keeps a0 a1 → brush1 ≡ brush0 → Goes a1 a2 brush2 (stroke brush1 b) → Goes a0 a2 brush2 (stroke brush0 b)
goes-behind a0 a1 a2 brush0 brush1 brush2 b kept same goes =
    goes-stroke a0 a2 brush0 brush2 brush1 b (stroke brush1 b) same refl (keeps_appends a0 a1 a2 (stroke brush1 b).out kept goes.0, goes.1)

pub brush-same : (within within' : Bool) → within ≡ within' → ◌≡◌ {A = Brush} (record { held = []; within = within }) (record { held = []; within = within' })
brush-same within within' same = rw same refl

-- what is next, where nothing was
pub appends-queued : (a : Option (List ℕ)) (queue out : List ℕ) → queue ≡ [] → Appends (append_known a queue) (append_known a out) out
appends-queued None queue out none = tt
appends-queued (Some xs) queue out none = ap (λ (l : List ℕ). l ++ out) (sym (ap (λ (q : List ℕ). xs ++ q) none ∙ append-nil xs))

-- a word that was held back goes out
abbrev pub released : Brush → ℕ → Stroke
released brush b = record { out = ending_of brush.held b; brush = record { held = []; within = goes_within brush.within brush.held } }

begun-joins : (out : List ℕ) (within : Bool) (b : ℕ) → joins (record { held = []; within = within }) b ≡ true → begun out within b ≡ record { out = out; brush = record { held = b ∷ []; within = within } }
begun-joins out within b is = rw is refl

passed-behind : (out : List ℕ) (b : ℕ) → passed out b ≡ record { out = out ++ (passed [] b).out; brush = (passed [] b).brush }
passed-behind out b = by_test (is_escape b)
  where
    by_test : (t : Bool) → ◌≡◌ {A = Stroke} (if t then record { out = out ++ 27 ∷ 27 ∷ codes "[0m"; brush = record { held = []; within = true } } else record { out = out ++ b ∷ []; brush = record { held = []; within = not (is_separator b) } })
        (let tail : Stroke = if t then record { out = 27 ∷ 27 ∷ codes "[0m"; brush = record { held = []; within = true } } else record { out = b ∷ []; brush = record { held = []; within = not (is_separator b) } } in
        record { out = out ++ tail.out; brush = tail.brush })
    by_test true = refl
    by_test false = refl

begun-passed : (out : List ℕ) (within : Bool) (b : ℕ) → joins (record { held = []; within = within }) b ≡ false → begun out within b ≡ record { out = out ++ (passed [] b).out; brush = (passed [] b).brush }
begun-passed out within b is = rw is (passed-behind out b)

-- and the byte is held back
pub goes-begun : (a0 a1 a2 a3 a4 : Option (List ℕ)) (brush0 brush1 brush2 brush3 brush4 : Brush) (b : ℕ) → Keeps a0 a1 → brush1 ≡ brush0 → joins brush1 b ≡ false → joins_title brush1.held b ≡ false
    → Goes a1 a2 brush2 (released brush1 b) → Keeps a2 a3 → brush3 ≡ brush2 → joins brush3 b ≡ true
    → Goes a3 a4 brush4 (record { out = []; brush = record brush3 { held = brush3.held ++ b ∷ [] } }) → Goes a0 a4 brush4 (stroke brush0 b)
goes-begun a0 a1 a2 a3 a4 brush0 brush1 brush2 brush3 brush4 b kept same none titled goes kept' same' joined more =
    let clear : brush3 ≡ (released brush1 b).brush = same' ∙ goes.1 in
    let within = goes_within brush1.within brush1.held in
    let starts : joins (record { held = []; within = within }) b ≡ true = ap (λ (x : Brush). joins x b) (sym clear) ∙ joined in
    let is : stroke brush1 b ≡ record { out = ending_of brush1.held b; brush = record { held = b ∷ []; within = within } } =
    stroke-begun brush1 b none titled ∙ begun-joins (ending_of brush1.held b) within b starts in
    let out : Appends a0 a4 (ending_of brush1.held b) =
    keeps_appends a0 a1 a4 (ending_of brush1.held b) kept (appends-kept a1 a2 a4 (ending_of brush1.held b) goes.0 (keeps_keeps a2 a3 a4 kept' (appends-none a3 a4 more.0))) in
    goes-stroke a0 a4 brush0 brush4 brush1 b _ same is (out, more.1 ∙ ap (λ (x : Brush). record x { held = x.held ++ b ∷ [] }) clear)

-- and so does the byte
pub goes-passed : (a0 a1 a2 a3 a4 : Option (List ℕ)) (brush0 brush1 brush2 brush3 brush4 : Brush) (b : ℕ) → Keeps a0 a1 → brush1 ≡ brush0 → joins brush1 b ≡ false → joins_title brush1.held b ≡ false
    → Goes a1 a2 brush2 (released brush1 b) → Keeps a2 a3 → brush3 ≡ brush2 → joins brush3 b ≡ false
    → Goes a3 a4 brush4 (passed [] b) → Goes a0 a4 brush4 (stroke brush0 b)
goes-passed a0 a1 a2 a3 a4 brush0 brush1 brush2 brush3 brush4 b kept same none titled goes kept' same' joined more =
    let clear : brush3 ≡ (released brush1 b).brush = same' ∙ goes.1 in
    let within = goes_within brush1.within brush1.held in
    let starts : joins (record { held = []; within = within }) b ≡ false = ap (λ (x : Brush). joins x b) (sym clear) ∙ joined in
    let out = ending_of brush1.held b in
    let is : stroke brush1 b ≡ record { out = out ++ (passed [] b).out; brush = (passed [] b).brush } = stroke-begun brush1 b none titled ∙ begun-passed out within b starts in
    let all : Appends a0 a4 (out ++ (passed [] b).out) =
    keeps_appends a0 a1 a4 (out ++ (passed [] b).out) kept (appends-both a1 a3 a4 out (passed [] b).out (appends-kept a1 a2 a3 out goes.0 kept') more.0) in
    goes-stroke a0 a4 brush0 brush4 brush1 b _ same is (all, more.1)

-- of a write that took one byte
pub ok-goes : {E : Type 0} (r : Result ℕ E) (P Q : Type 0) → (P → Q) → IfOk r (λ count. count ≡ 1 → P) → IfOk r (λ count. count ≡ 1 → Q)
ok-goes (Ok count) P Q more one = λ is. more (one is)
ok-goes (Err e) P Q more one = tt

-- of one that took one byte at most
pub goes-all : {E : Type 0} (r : Result ℕ E) (bytes : List ℕ) (a a' : Option (List ℕ)) (brush brush' : Brush) → IfOk r (λ n. n ≤ length bytes) → IfOk r (λ n. n ≤ 1)
    → IfOk r (λ n. n ≡ 1 → Goes a a' brush' (stroke brush (get_or bytes 0 0))) → IfOk r (λ n. 0 < n → Goes a a' brush' (strokes brush (take n bytes)))
goes-all (Err e) bytes a a' brush brush' fits one goes = tt
goes-all (Ok zero) bytes a a' brush brush' fits one goes = λ some. absurd (omega (arith, some))
goes-all (Ok (suc zero)) [] a a' brush brush' fits one goes = λ some. absurd (omega (arith, fits))
goes-all (Ok (suc zero)) (b ∷ bytes) a a' brush brush' fits one goes = λ some. (subst (Appends a a') (sym (append-nil (stroke brush b).out)) (goes refl).0, (goes refl).1)
goes-all (Ok (suc (suc n))) bytes a a' brush brush' fits one goes = λ some. absurd (omega (arith, one))
