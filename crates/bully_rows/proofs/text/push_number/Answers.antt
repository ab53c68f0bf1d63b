-- A number of two digits is its tens and its ones, and one of one digit is that.
use Rattle.std.proofs.Common.{◌/◌, append_assoc, arith}
use Rattle.std.proofs.lemmas.Fmt.{decimal_digit, decimal_step}
use Rattle.std.proofs.lemmas.Grind.{common_steps}
use Rattle.bully_rows.proofs.text.push_number.Goals as goal
use Rattle.bully_rows.proofs.text.push_number.Goals.{then-number-ge10+in_ok-push_digit, else-number-ge10}

pub returns : goal.returns
returns c = elim c.if-number-ge10.branch [
  | then-number-ge10+in_ok-push_digit w ↦ grind (arith, common_steps, append_assoc, decimal_step c.args.number (omega arith) (omega arith), decimal_digit (c.args.number / 10) (omega arith), w.text-is, w.in_ok-push_digit.ensures, c.push_digit-2.ensures)
  | else-number-ge10 w ↦ grind (arith, common_steps, decimal_digit c.args.number (omega arith), w.text-is, c.push_digit-2.ensures)
]
