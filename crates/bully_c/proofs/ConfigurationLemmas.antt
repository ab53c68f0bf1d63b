-- The lines of a configuration's names, one by one.
use Rattle.std.proofs.Common.{◌≡◌, ℕ, zero, suc, ◌+◌, ◌<◌, List, [], ◌∷◌, ◌++◌, ◌∙◌, ap, sym, append_assoc, arith, length, slice_index_or, take}
use Rattle.std.proofs.lemmas.Grind.{common_steps}
use Rattle.bully_base.specs.Places.{at_node}
use Rattle.bully_c.specs.Configurations.{name_line, names_text}

-- the line of name k stands behind those before
names-next : (k : ℕ) (names : List (List ℕ)) → k < length names → names_text (take (k + 1) names) ≡ names_text (take k names) ++ name_line (slice_index_or names k [])
names-next k [] l = absurd (omega arith)
names-next zero (name ∷ names) l = grind (arith, common_steps)
names-next (suc k) (name ∷ names) l =
    let more = ap (λ (xs : List ℕ). name_line name ++ xs) (names-next k names (omega arith)) in
    let next : suc k + 1 ≡ suc (k + 1) = omega arith in
    rw next (more ∙ sym (append_assoc (name_line name) (names_text (take k names)) (name_line (slice_index_or names k []))))

-- a step of the loop over nodes
pub names-step : (node k : ℕ) (names : List (List ℕ)) (start text new : List ℕ) → node ≡ k + 1 → k < length names → text ≡ start ++ names_text (take k names) → new ≡ text ++ name_line (at_node [] names node) → new ≡ start ++ names_text (take (k + 1) names)
names-step zero k names start text new e l t n = absurd (omega arith)
names-step (suc j) k names start text new e l t n =
    let next = names-next k names l in
    let same : j ≡ k = omega (arith, e) in
    grind (arith, t, n, next, same, append_assoc)
