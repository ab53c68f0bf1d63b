-- Lemmas on the bytes that a writer holds.
use Rattle.std.proofs.Common.{◌≡◌, ℕ, ◌+◌, ◌-◌, ◌≤◌, ◌++◌, List, Option, Some, None, length, take, drop, refl, sym, ap, subst, ◌∙◌, arith}
use Rattle.std.proofs.Math.Seq.{take-add, take-take}
use Rattle.std.specs.Io.KnownBytes.{Appends, Keeps}
use Rattle.std.proofs.lemmas.Grind.{common_steps}

pub appends-trans : (a b c : Option (List ℕ)) (xs ys : List ℕ) → Appends a b xs → Appends b c ys → Appends a c (xs ++ ys)
appends-trans None b c xs ys h k = tt
appends-trans (Some a) None c xs ys h k = absurd h
appends-trans (Some a) (Some b) None xs ys h k = absurd k
appends-trans (Some a) (Some b) (Some c) xs ys h k = grind (arith, common_steps, h, k)

pub appends-keeps : (a b c : Option (List ℕ)) (xs : List ℕ) → Appends a b xs → Keeps b c → Appends a c xs
appends-keeps None b c xs h k = tt
appends-keeps (Some a) None c xs h k = absurd h
appends-keeps (Some a) (Some b) None xs h k = absurd k
appends-keeps (Some a) (Some b) (Some c) xs h k = k ∙ h

pub keeps-refl : (a : Option (List ℕ)) → Keeps a a
keeps-refl None = tt
keeps-refl (Some a) = refl

-- the next bytes of the text behind those that were written
pub appends-next : (a b c : Option (List ℕ)) (text : List ℕ) (written n : ℕ) → n ≤ length text - written → Appends a b (take written text) → Appends b c (take n (take (length text - written) (drop written text))) → Appends a c (take (written + n) text)
appends-next a b c text written n fits before now =
    let joined = ap (λ l. take written text ++ l) (take-take n (length text - written) (drop written text) fits) ∙ sym (take-add written n text) in
    subst (Appends a c) joined (appends-trans a b c _ _ before now)

pub keeps-same : (a b : Option (List ℕ)) → b ≡ a → Keeps a b
keeps-same a b e = subst (Keeps a) (sym e) (keeps-refl a)
