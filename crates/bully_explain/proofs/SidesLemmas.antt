-- What stands in two columns.
use Rattle.std.proofs.Common.{◌≡◌, ◌∙◌, ℕ, ◌-◌, ◌+◌, ◌++◌, length, length-append, List, ap, arith, codes}
use Rattle.bully_draft.specs.Drafted.{Appends, Drafted}
use Rattle.bully_draft.proofs.DraftLemmas.{appends_then}
use Rattle.bully_explain.specs.Differing.{gap, part_name, sides}

-- behind what stands in the first column, the gap is that behind so many bytes
gap-behind : {b c d : Drafted} (start : ℕ) (said : List ℕ) → start ≡ length b.text → Appends b c said → Appends c d (gap (length c.text - start)) → Appends c d (gap (length said))
gap-behind {b} {c} {d} start said begins pushed filled = record {
  memory = filled.memory;
  text = λ good.
      let longer : length c.text ≡ length b.text + length said = ap length (pushed.text (filled.memory good)) ∙ length-append b.text said in
      let taken : length c.text - start ≡ length said = omega (arith, begins, longer) in
      filled.text good ∙ ap (λ n. c.text ++ gap n) taken;
}

-- the line of a part
pub beside : {a b c d e f : Drafted} (part said shown : List ℕ) (start : ℕ) → Appends a b (part_name part) → start ≡ length b.text → Appends b c said → Appends c d (gap (length c.text - start))
    → Appends d e shown → Appends e f (codes "\n") → Appends a f (sides part said shown)
beside part said shown start named begins pushed filled then ended =
    appends_then named (appends_then pushed (appends_then (gap-behind start said begins pushed filled) (appends_then then ended)))
