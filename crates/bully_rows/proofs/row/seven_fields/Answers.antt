use Rattle.std.proofs.Common.{◌≡◌, ◌∙◌, None, refl, sym, subst, List, ℕ, IfOk, if◌then◌else◌, codes}
use Rattle.std.specs.Str.{bytes_eq}
use Rattle.csv.specs.Records.{fields_of}
use Rattle.bully_rows.specs.Rows.{row_of, whole_row}
use Rattle.bully_rows.proofs.FieldLemmas.{fields-seven}
use Rattle.bully_rows.proofs.row.seven_fields.Goals as goal
use Rattle.bully_rows.proofs.row.seven_fields.Goals.{then-not-is_word-via-then-not-is_word, then-not-is_word-via-else-not-is_word+then-not-says_more}

pub returns-then-not-is_word : goal.returns-then-not-is_word
returns-then-not-is_word c =
    let seven = fields-seven (fields_of c.args.fields.now) c.field-word.result.now c.field-node.result.now c.field-status.result.now c.field-coordinator.result.now c.field-halter.result.now c.field-up.result.now c.field-owners.result.now
    c.requires c.field-word.ensures c.field-node.ensures c.field-status.ensures c.field-coordinator.ensures c.field-halter.ensures c.field-up.ensures c.field-owners.ensures in
    let other : None ≡ (if bytes_eq c.field-word.result.now (codes "saw") then whole_row c.args.version c.args.setup.now c.field-node.result.now c.field-status.result.now c.field-coordinator.result.now c.field-halter.result.now c.field-up.result.now c.field-owners.result.now else None) =
    elim c.then-not-is_word.branch [
      | then-not-is_word-via-then-not-is_word w ↦ rw (sym c.is_word.ensures ∙ w.if-not-is_word.true) refl
      | then-not-is_word-via-else-not-is_word+then-not-says_more w ↦ rw (sym c.is_word.ensures ∙ w.if-not-is_word.false, sym w.says_more.ensures ∙ w.if-not-says_more.true) refl
    ] in
    subst (λ (fs : List (List ℕ)). None ≡ row_of c.args.version c.args.setup.now fs) (sym seven) other

pub returns : goal.returns
returns c =
    let seven = fields-seven (fields_of c.args.fields.now) c.field-word.result.now c.field-node.result.now c.field-status.result.now c.field-coordinator.result.now c.field-halter.result.now c.field-up.result.now c.field-owners.result.now
    c.requires c.field-word.ensures c.field-node.ensures c.field-status.ensures c.field-coordinator.ensures c.field-halter.ensures c.field-up.ensures c.field-owners.ensures in
    subst (λ (fs : List (List ℕ)). IfOk c.whole_row.result (λ row. row ≡ row_of c.args.version c.args.setup.now fs)) (sym seven) (
    rw (sym c.is_word.ensures ∙ c.if-not-is_word.false, sym c.says_more.ensures ∙ c.if-not-says_more.false) (rw c.claim_of-claim.ensures at c.whole_row.ensures))
