use Rattle.std.proofs.Common.{◌≡◌, slice_get, Some, arith, rules}
use Rattle.std.specs.String.{string_bytes}
use Rattle.bully_table.proofs.OwnerTexts.{owner-first, owner-next}
use Rattle.bully_rows.proofs.TextLemmas.{weight-there}
use Rattle.bully_rows.proofs.text.push_weights.Goals as goal
use Rattle.bully_rows.proofs.text.push_weights.Goals.{then-before-gt0+in_ok-push, else-before-gt0}

pub loop-before-preserved : goal.loop-before-preserved
loop-before-preserved c =
    let setup = c.args.setup.now in
    let before = c.loop-before.before in
    let start = string_bytes c.args.text.now in
    let text = string_bytes c.loop-before.text in
    let new = string_bytes c.write.new.self in
    let weight : slice_get setup.weights before ≡ Some c.weight-weight.result =
    weight-there setup before c.unwrap.result c.weight-weight.result (search rules) (search rules) (grind (arith, c.new.ensures, c.unwrap.ensures)) c.weight-weight.ensures.weight in
    record {
      text = elim c.if-before-gt0.branch [
        | then-before-gt0+in_ok-push w ↦ owner-next 32 before c.weight-weight.result setup.weights start text (string_bytes c.if-before-gt0.text) new w.if-before-gt0.true (omega arith) c.loop-before.invariant.text weight (grind (arith, w.text-is, w.in_ok-push.ensures.bytes)) c.in_ok-write.ensures.bytes
        | else-before-gt0 w ↦ owner-first 32 before c.weight-weight.result setup.weights start text new (omega (arith, w.if-before-gt0.false)) c.loop-before.invariant.text weight (grind (arith, w.text-is, c.in_ok-write.ensures.bytes))
      ];
      end = c.loop-before.invariant.end;
    }
