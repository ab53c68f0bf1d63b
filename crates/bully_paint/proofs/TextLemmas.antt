-- Lemmas on the text that a writer with marks holds.
use Rattle.std.proofs.Common.{◌≡◌, ◌≢◌, ℕ, zero, suc, ◌-◌, ◌<◌, ◌≤◌, Bool, true, false, List, [], ◌∷◌, ◌++◌, Option, Some, None, Result, Ok, Err, refl, sym, ap, subst, ◌∙◌, append_assoc, append-nil, if◌then◌else◌, length, take, drop, get_or, take-append-drop, length-drop, arith}
use Rattle.std.proofs.lemmas.List.{take_rest}
use Rattle.std.specs.Io.KnownBytes.{Appends, Keeps, WriteAppends, append_known}
use Rattle.bully_paint.specs.Marks.{is_whole, unpainted}
use Rattle.bully_paint.specs.Painted.{text_with}
use Rattle.bully_paint.proofs.MarkLemmas.{byte-text, byte-whole, unpainted-++, whole-++}

pub keeps_refl : (a : Option (List ℕ)) → Keeps a a
keeps_refl None = tt
keeps_refl (Some xs) = refl

pub keeps_keeps : (a b c : Option (List ℕ)) → Keeps a b → Keeps b c → Keeps a c
keeps_keeps None b c h k = tt
keeps_keeps (Some a) None c h k = absurd h
keeps_keeps (Some a) (Some b) None h k = absurd k
keeps_keeps (Some a) (Some b) (Some c) h k = k ∙ h

pub keeps_appends : (a b c : Option (List ℕ)) (xs : List ℕ) → Keeps a b → Appends b c xs → Appends a c xs
keeps_appends None b c xs h k = tt
keeps_appends (Some a) None c xs h k = absurd h
keeps_appends (Some a) (Some b) None xs h k = absurd k
keeps_appends (Some a) (Some b) (Some c) xs h k = k ∙ ap (λ l. l ++ xs) h

-- a write behind what kept all
pub keeps_writes : {E : Type 0} (a b c : Option (List ℕ)) (r : Result ℕ E) (bytes : List ℕ) → Keeps a b → WriteAppends b c r bytes → WriteAppends a c r bytes
keeps_writes a b c (Ok n) bytes h k = keeps_appends a b c (take n bytes) h k
keeps_writes a b c (Err e) bytes h k = keeps_keeps a b c h k

-- what is as it was holds the same
pub keeps_same : {X : Type 0} (t : X → Option (List ℕ)) (first before after : X) → Keeps (t first) (t before) → after ≡ before → Keeps (t first) (t after)
keeps_same t first before after h e = subst (λ x. Keeps (t first) (t x)) (sym e) h

-- the writer below took the front of what was on its way
pub sent-moved : (a b : Option (List ℕ)) (front rest : List ℕ) → Appends a b front → Keeps (append_known a (front ++ rest)) (append_known b rest)
sent-moved None b front rest h = tt
sent-moved (Some xs) None front rest h = absurd h
sent-moved (Some xs) (Some ys) front rest h = ap (λ l. l ++ rest) h ∙ append_assoc xs front rest

-- what was sent stays, and so does its text
pub text-kept : (a b : Option (List ℕ)) (held : List ℕ) → Keeps a b → Keeps (text_with a held) (text_with b held)
text-kept None b held h = tt
text-kept (Some xs) None held h = absurd h
text-kept (Some xs) (Some ys) held h = subst (λ l. Keeps (text_with (Some xs) held) (text_with (Some l) held)) (sym h) (keeps_refl (text_with (Some xs) held))

-- the text of known bytes, by whether they are whole
abbrev pub text_if : Bool → List ℕ → Option (List ℕ)
text_if whole bytes = if whole then Some (unpainted bytes) else None

-- other bytes come behind known ones, with xs more as their text
grown-if : (bytes held bytes' held' more : List ℕ) (whole : Bool) → is_whole bytes ≡ whole
    → (whole ≡ true → (is_whole bytes' ≡ true) × (unpainted (bytes' ++ held') ≡ unpainted (bytes ++ held) ++ more))
    → Appends (text_if whole (bytes ++ held)) (text_if (is_whole bytes') (bytes' ++ held')) more
grown-if bytes held bytes' held' more false e f = tt
grown-if bytes held bytes' held' more true e f =
    let told = f refl in
    subst (λ whole. Appends (text_if true (bytes ++ held)) (text_if whole (bytes' ++ held')) more) (sym told.0) told.1

-- a byte more is held back, while a whole part of what was held back goes out
pub text-held : (a : Option (List ℕ)) (held out held' : List ℕ) (b : ℕ) → b ≢ 27 → is_whole held ≡ true → is_whole out ≡ true → out ++ held' ≡ held ++ b ∷ []
    → Appends (text_with (append_known a []) held) (text_with (append_known a out) held') (b ∷ [])
text-held None held out held' b other whole part e = tt
text-held (Some xs) held out held' b other whole part e =
    grown-if (xs ++ []) held (xs ++ out) held' (b ∷ []) (is_whole (xs ++ [])) refl (λ before.
    let kept : is_whole xs ≡ true = subst (λ l. is_whole l ≡ true) (append-nil xs) before in (
      whole-++ xs out kept part,
      ap unpainted (append_assoc xs out held' ∙ ap (λ l. xs ++ l) e ∙ sym (append_assoc xs held (b ∷ [])))
          ∙ unpainted-++ (xs ++ held) (b ∷ []) (whole-++ xs held kept whole)
          ∙ ap (λ l. unpainted (xs ++ held) ++ l) (byte-text b other)
          ∙ ap (λ l. unpainted (l ++ held) ++ b ∷ []) (sym (append-nil xs)),
    ))

-- what was held back goes out
pub text-out : (a : Option (List ℕ)) (held out : List ℕ) → is_whole out ≡ true → unpainted out ≡ unpainted held
    → Appends (text_with (append_known a []) held) (text_with (append_known a out) []) []
text-out None held out whole e = tt
text-out (Some xs) held out whole e =
    grown-if (xs ++ []) held (xs ++ out) [] [] (is_whole (xs ++ [])) refl (λ before.
    let kept : is_whole xs ≡ true = subst (λ l. is_whole l ≡ true) (append-nil xs) before in (
      whole-++ xs out kept whole,
      ap unpainted (append-nil (xs ++ out))
          ∙ unpainted-++ xs out kept
          ∙ ap (λ l. unpainted xs ++ l) e
          ∙ sym (unpainted-++ xs held kept)
          ∙ ap (λ l. unpainted (l ++ held)) (sym (append-nil xs))
          ∙ sym (append-nil (unpainted ((xs ++ []) ++ held))),
    ))

-- whole bytes are sent, with nothing held back
pub text-sent : (a b : Option (List ℕ)) (sent more : List ℕ) → Appends a b sent → is_whole sent ≡ true → unpainted sent ≡ more
    → Appends (text_with (append_known a []) []) (text_with (append_known b []) []) more
text-sent None b sent more h whole e = tt
text-sent (Some xs) None sent more h whole e = absurd h
text-sent (Some xs) (Some ys) sent more h whole e =
    grown-if (xs ++ []) [] (ys ++ []) [] more (is_whole (xs ++ [])) refl (λ before.
    let kept : is_whole xs ≡ true = subst (λ l. is_whole l ≡ true) (append-nil xs) before in
    let same : ys ++ [] ≡ xs ++ sent = append-nil ys ∙ h in (
      ap is_whole same ∙ whole-++ xs sent kept whole,
      ap unpainted (append-nil (ys ++ []) ∙ same)
          ∙ unpainted-++ xs sent kept
          ∙ ap (λ l. unpainted xs ++ l) e
          ∙ ap (λ l. unpainted l ++ more) (sym (append-nil (xs ++ []) ∙ append-nil xs)),
    ))

-- whole bytes come next, with nothing held back
pub text-queued : (a : Option (List ℕ)) (out more : List ℕ) → is_whole out ≡ true → unpainted out ≡ more
    → Appends (text_with (append_known a []) []) (text_with (append_known a out) []) more
text-queued None out more whole e = tt
text-queued (Some xs) out more whole e =
    grown-if (xs ++ []) [] (xs ++ out) [] more (is_whole (xs ++ [])) refl (λ before.
    let kept : is_whole xs ≡ true = subst (λ l. is_whole l ≡ true) (append-nil xs) before in (
      whole-++ xs out kept whole,
      ap unpainted (append-nil (xs ++ out))
          ∙ unpainted-++ xs out kept
          ∙ ap (λ l. unpainted xs ++ l) e
          ∙ ap (λ l. unpainted l ++ more) (sym (append-nil (xs ++ []) ∙ append-nil xs)),
    ))

pub appends-none : (a b : Option (List ℕ)) → Appends a b [] → Keeps a b
appends-none None b h = tt
appends-none (Some xs) None h = absurd h
appends-none (Some xs) (Some ys) h = h ∙ append-nil xs

pub keeps_none : (a b : Option (List ℕ)) → Keeps a b → Appends a b []
keeps_none None b h = tt
keeps_none (Some xs) None h = absurd h
keeps_none (Some xs) (Some ys) h = h ∙ sym (append-nil xs)

-- what is next after the writer below took n bytes of it
pub moved-next : (s a b : Option (List ℕ)) (rest : List ℕ) (n : ℕ) → Keeps s (append_known a rest) → Appends a b (take n rest)
    → Keeps s (append_known b (take (length rest - n) (drop n rest)))
moved-next s a b rest n before now =
    let whole : take n rest ++ take (length rest - n) (drop n rest) ≡ rest = ap (λ l. take n rest ++ l) (take_rest rest n) ∙ take-append-drop n rest in
    keeps_keeps s (append_known a rest) _ before
    (subst (λ l. Keeps (append_known a l) (append_known b (take (length rest - n) (drop n rest)))) whole (sent-moved a b (take n rest) (take (length rest - n) (drop n rest)) now))

-- none of it was taken
pub moved-none : (s a b : Option (List ℕ)) (rest : List ℕ) → Keeps s (append_known a rest) → Appends a b [] → Keeps s (append_known b rest)
moved-none s a b rest before now = keeps_keeps s (append_known a rest) (append_known b rest) before (sent-moved a b [] rest now)

-- a write that took nothing
pub moved-zero : (s a b : Option (List ℕ)) (rest : List ℕ) (n : ℕ) → n ≡ 0 → Keeps s (append_known a rest) → Appends a b (take n rest) → Keeps s (append_known b rest)
moved-zero s a b rest n e before now = moved-none s a b rest before (subst (λ n. Appends a b (take n rest)) e now)

-- less is left
pub taken-less : (rest : List ℕ) (n : ℕ) → n ≢ 0 → n ≤ length rest → length (take (length rest - n) (drop n rest)) < length rest
taken-less rest zero some fits = absurd (some refl)
taken-less rest (suc n) some fits =
    let size = length-drop (suc n) rest in
    let same : length (take (length rest - suc n) (drop (suc n) rest)) ≡ length (drop (suc n) rest) = ap length (take_rest rest (suc n)) in
    omega arith

-- ---- the same of a writer that paints

abbrev pub text_by : Bool → Option (List ℕ) → List ℕ → List ℕ → Option (List ℕ)
text_by paints a queue held = if paints then text_with (append_known a queue) held else a

pub painted-held : (paints : Bool) (a : Option (List ℕ)) (queue held out held' : List ℕ) (b : ℕ) → paints ≡ true → queue ≡ []
    → b ≢ 27 → is_whole held ≡ true → is_whole out ≡ true → out ++ held' ≡ held ++ b ∷ []
    → Appends (text_by paints a queue held) (text_by paints a out held') (b ∷ [])
painted-held false a queue held out held' b p e other whole part joined = grind (arith, p)
painted-held true a queue held out held' b p e other whole part joined =
    subst (λ q. Appends (text_with (append_known a q) held) (text_with (append_known a out) held') (b ∷ [])) (sym e) (text-held a held out held' b other whole part joined)

pub painted-out : (paints : Bool) (a : Option (List ℕ)) (queue held out : List ℕ) → paints ≡ true → queue ≡ [] → is_whole out ≡ true
    → unpainted out ≡ unpainted held → Keeps (text_by paints a queue held) (text_by paints a out [])
painted-out false a queue held out p e whole same = grind (arith, p)
painted-out true a queue held out p e whole same =
    subst (λ q. Keeps (text_with (append_known a q) held) (text_with (append_known a out) [])) (sym e) (appends-none _ _ (text-out a held out whole same))

pub painted-queued : (paints : Bool) (a : Option (List ℕ)) (queue held out more : List ℕ) → paints ≡ true → queue ≡ [] → held ≡ []
    → is_whole out ≡ true → unpainted out ≡ more → Appends (text_by paints a queue held) (text_by paints a out held) more
painted-queued false a queue held out more p e f whole same = grind (arith, p)
painted-queued true a queue held out more p e f whole same =
    subst (λ q. Appends (text_with (append_known a q) held) (text_with (append_known a out) held) more) (sym e)
    (subst (λ h. Appends (text_with (append_known a []) h) (text_with (append_known a out) h) more) (sym f) (text-queued a out more whole same))

pub painted-sent : (paints : Bool) (a b : Option (List ℕ)) (queue held sent more : List ℕ) → paints ≡ true → queue ≡ [] → held ≡ []
    → Appends a b sent → is_whole sent ≡ true → unpainted sent ≡ more → Appends (text_by paints a queue held) (text_by paints b queue held) more
painted-sent false a b queue held sent more p e f h whole same = grind (arith, p)
painted-sent true a b queue held sent more p e f h whole same =
    subst (λ q. Appends (text_with (append_known a q) held) (text_with (append_known b q) held) more) (sym e)
    (subst (λ h. Appends (text_with (append_known a []) h) (text_with (append_known b []) h) more) (sym f) (text-sent a b sent more h whole same))

pub painted-kept : (paints : Bool) (a b : Option (List ℕ)) (queue queue' held : List ℕ) → paints ≡ true
    → Keeps (append_known a queue) (append_known b queue') → Keeps (text_by paints a queue held) (text_by paints b queue' held)
painted-kept false a b queue queue' held p h = grind (arith, p)
painted-kept true a b queue queue' held p h = text-kept (append_known a queue) (append_known b queue') held h

-- the first bytes of a text, of which one at most is written
pub first-byte : (bytes : List ℕ) → 0 < length bytes → take 1 bytes ≡ get_or bytes 0 0 ∷ []
first-byte [] some = grind (arith, some)
first-byte (b ∷ bytes) some = refl

-- the first byte of a text was taken, behind what kept all
pub keeps_first : (a b c : Option (List ℕ)) (bytes : List ℕ) → 0 < length bytes → Keeps a b → Appends b c (get_or bytes 0 0 ∷ []) → Appends a c (take 1 bytes)
keeps_first a b c bytes some h k = subst (Appends a c) (sym (first-byte bytes some)) (keeps_appends a b c _ h k)

pub front-whole : (bytes : List ℕ) (n : ℕ) → 0 < length bytes → get_or bytes 0 0 ≢ 27 → n ≤ 1 → is_whole (take n (take 1 bytes)) ≡ true
front-whole [] n some other most = grind (arith, some)
front-whole (b ∷ bytes) zero some other most = refl
front-whole (b ∷ bytes) (suc zero) some other most = byte-whole b other
front-whole (b ∷ bytes) (suc (suc n)) some other most = absurd (omega arith)

pub front-text : (bytes : List ℕ) (n : ℕ) → 0 < length bytes → get_or bytes 0 0 ≢ 27 → n ≤ 1 → unpainted (take n (take 1 bytes)) ≡ take n bytes
front-text [] n some other most = grind (arith, some)
front-text (b ∷ bytes) zero some other most = refl
front-text (b ∷ bytes) (suc zero) some other most = byte-text b other
front-text (b ∷ bytes) (suc (suc n)) some other most = absurd (omega arith)

-- a byte more that is no ESC
pub whole-more : (held more : List ℕ) (b : ℕ) → b ≢ 27 → is_whole held ≡ true → more ≡ held ++ b ∷ [] → is_whole more ≡ true
whole-more held more b other whole e = subst (λ l. is_whole l ≡ true) (sym e) (whole-++ held (b ∷ []) whole (byte-whole b other))
