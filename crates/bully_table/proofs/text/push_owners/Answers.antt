use Rattle.std.proofs.Common.{string_bytes, slice_get, Some, ◌≡◌, arith}
use Rattle.bully_table.proofs.OwnerTexts.{owner-first, owner-next}
use Rattle.bully_table.proofs.text.push_owners.Goals as goal
use Rattle.bully_table.proofs.text.push_owners.Goals.{then-place-gt0+in_ok-push, else-place-gt0}

pub loop-place-preserved : goal.loop-place-preserved
loop-place-preserved c =
    let start = string_bytes c.args.text.now in
    let text = string_bytes c.loop-place.text in
    let new = string_bytes c.write.new.self in
    let owner : slice_get c.args.table.now c.loop-place.place ≡ Some c.number-owner.result = grind (arith, c.owner.ensures, c.number-owner.ensures.number) in
    elim c.if-place-gt0.branch [
      | then-place-gt0+in_ok-push w ↦ owner-next c.args.separator c.loop-place.place c.number-owner.result c.args.table.now start text (string_bytes c.if-place-gt0.text) new w.if-place-gt0.true c.requires c.loop-place.invariant owner (grind (arith, w.text-is, w.in_ok-push.ensures.bytes)) c.in_ok-write.ensures.bytes
      | else-place-gt0 w ↦ owner-first c.args.separator c.loop-place.place c.number-owner.result c.args.table.now start text new (omega (arith, w.if-place-gt0.false)) c.loop-place.invariant owner (grind (arith, w.text-is, c.in_ok-write.ensures.bytes))
    ]
