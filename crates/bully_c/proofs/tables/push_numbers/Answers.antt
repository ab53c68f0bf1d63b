use Rattle.std.proofs.Common.{string_bytes, slice_get, get_or, Some, ◌≡◌, arith}
use Rattle.std.proofs.lemmas.Option.{slice_get-get_or}
use Rattle.bully_table.proofs.OwnerTexts.{owner-first, owner-next}
use Rattle.bully_c.proofs.tables.push_numbers.Goals as goal
use Rattle.bully_c.proofs.tables.push_numbers.Goals.{then-place-gt0+in_ok-push, else-place-gt0}

pub loop-place-preserved : goal.loop-place-preserved
loop-place-preserved c =
    let start = string_bytes c.args.text.now in
    let text = string_bytes c.loop-place.text in
    let new = string_bytes c.write.new.self in
    let at = get_or c.args.owners.now c.loop-place.place 0 in
    let owner : slice_get c.args.owners.now c.loop-place.place ≡ Some at = slice_get-get_or c.args.owners.now c.loop-place.place 0 c.loop-place-test.true in
    elim c.if-place-gt0.branch [
      | then-place-gt0+in_ok-push w ↦ owner-next 32 c.loop-place.place at c.args.owners.now start text (string_bytes c.if-place-gt0.text) new w.if-place-gt0.true (omega arith) c.loop-place.invariant owner (grind (arith, w.text-is, w.in_ok-push.ensures.bytes)) c.in_ok-write.ensures.bytes
      | else-place-gt0 w ↦ owner-first 32 c.loop-place.place at c.args.owners.now start text new (omega (arith, w.if-place-gt0.false)) c.loop-place.invariant owner (grind (arith, w.text-is, c.in_ok-write.ensures.bytes))
    ]
