-- The set of the nodes that are named, one by one.
use Rattle.std.proofs.Common.{◌≡◌, ℕ, ◌+◌, ◌<◌, List, [], ◌∷◌, ◌++◌, Contains, arith, get_or, inl, inr, length, refl, subst, sym, take, ◌↔◌, ◌⊎◌}
use Rattle.std.proofs.lemmas.List.{take_more}
use Rattle.std.proofs.lemmas.List.Elements.{Contains-append_left, Contains-push, Contains-push_cases}
use Rattle.bully_c.specs.Judged.{IsSetOf}

-- one more is named, and becomes a member
pub members-more : (k node : ℕ) (numbers old new : List ℕ) → k < length numbers → node ≡ get_or numbers k 0
    → ((j : ℕ) → Contains new j ↔ ((j ≡ node) ⊎ Contains old j)) → ((j : ℕ) → Contains old j ↔ Contains (take k numbers) j)
    → (j : ℕ) → Contains new j ↔ Contains (take (k + 1) numbers) j
members-more k node numbers old new l e more same j = (λ h. there ((more j).0 h), λ h. (more j).1 (back h))
  where
    all : take (k + 1) numbers ≡ take k numbers ++ node ∷ []
    all = rw e (take_more numbers k 0 l)

    there : (j ≡ node) ⊎ Contains old j → Contains (take (k + 1) numbers) j
    there (inl is) = rw (all, is) (Contains-push (take k numbers) node)
    there (inr is) = rw all (Contains-append_left (take k numbers) (node ∷ []) j ((same j).0 is))

    either : Contains (take k numbers) j ⊎ (node ≡ j) → (j ≡ node) ⊎ Contains old j
    either (inl is) = inr ((same j).1 is)
    either (inr is) = inl (sym is)

    back : Contains (take (k + 1) numbers) j → (j ≡ node) ⊎ Contains old j
    back h = either (Contains-push_cases (take k numbers) node j (rw all at h))

no_member : (i : ℕ) → Contains [] i → ⊥
no_member i w = omega (arith, w.1)

-- nobody is named where the set is empty
pub nobody : (numbers set : List ℕ) → IsSetOf numbers set → set ≡ [] → numbers ≡ []
nobody [] set is none = refl
nobody (n ∷ numbers) set is none =
    let here : Contains (n ∷ numbers) n = (0, omega arith, refl) in
    absurd (no_member n (subst (λ (ms : List ℕ). Contains ms n) none ((is.same n).1 here)))
