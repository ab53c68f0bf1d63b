-- Texts that grow by an owner.
use Rattle.std.proofs.Common.{◌≡◌, ℕ, zero, suc, ◌+◌, ◌<◌, List, [], ◌∷◌, ◌++◌, take, slice_get, Some, append_assoc, encode_utf8, arith}
use Rattle.std.specs.Fmt.{decimal}
use Rattle.std.proofs.lemmas.Grind.{common_steps}
use Rattle.std.proofs.lemmas.Str.Ascii.{encode_ascii}
use Rattle.bully_table.specs.TableText.{owners_text}

-- the text of the first k owners
abbrev pub joined : ℕ → List ℕ → ℕ → List ℕ
joined c xs k = owners_text c (take k xs)

joined-first : (c : ℕ) (xs : List ℕ) (x : ℕ) → slice_get xs 0 ≡ Some x → joined c xs 1 ≡ decimal x
joined-first c [] x e = grind (arith, e)
joined-first c (a ∷ xs) x e = grind (arith, e)

joined-next : (c : ℕ) (xs : List ℕ) (k x : ℕ) → slice_get xs (suc k) ≡ Some x → joined c xs (suc (suc k)) ≡ joined c xs (suc k) ++ (c ∷ decimal x)
joined-next c [] k x e = grind (arith, e)
joined-next c (a ∷ []) k x e = grind (arith, e)
joined-next c (a ∷ b ∷ xs) zero x e = grind (arith, e)
joined-next c (a ∷ b ∷ xs) (suc k) x e =
    let more = joined-next c (b ∷ xs) k x e in
    let same = append_assoc (decimal a) (c ∷ joined c (b ∷ xs) (suc k)) (c ∷ decimal x) in
    grind (arith, more, same)

-- a step of the loop over owners: with no separator before the first, and one before each other
pub owner-first : (c k owner : ℕ) (xs start text new : List ℕ) → k ≡ 0 → text ≡ start ++ joined c xs k → slice_get xs k ≡ Some owner → new ≡ text ++ decimal owner → new ≡ start ++ joined c xs (k + 1)
owner-first c (suc k) owner xs start text new z t e n = absurd (omega arith)
owner-first c zero owner xs start text new z t e n = let first = joined-first c xs owner e in grind (arith, common_steps, t, n, first)

pub owner-next : (c k owner : ℕ) (xs start text mid new : List ℕ) → 0 < k → c < 128 → text ≡ start ++ joined c xs k → slice_get xs k ≡ Some owner → mid ≡ text ++ encode_utf8 c → new ≡ mid ++ decimal owner → new ≡ start ++ joined c xs (k + 1)
owner-next c zero owner xs start text mid new l a t e m n = absurd (omega arith)
owner-next c (suc k) owner xs start text mid new l a t e m n =
    let next = joined-next c xs k owner e in
    let byte = encode_ascii c a in
    grind (arith, t, m, n, next, byte, append_assoc)
