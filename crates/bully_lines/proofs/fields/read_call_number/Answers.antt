-- The bound on events is below 2 ^ 32.
use Rattle.std.proofs.Common.{◌≤◌, ◌^◌, ◌∙◌, arith}
use Rattle.bully_table.specs.Numeral.{number_of}
use Rattle.bully_lines.proofs.LineLemmas.{none_below}
use Rattle.bully_lines.proofs.fields.read_call_number.Goals as goal

pub returns-in_err-number : goal.returns-in_err-number
returns-in_err-number c =
    let small : c.args.setup.now.events_max ≤ 2 ^ 32 = omega (arith, c.events_max-bound.ensures.within.events.1) in
    c.from_residual.ensures ∙ none_below c.args.setup.now.events_max (number_of c.args.text.now) c.read_large_number.result small c.read_large_number.ensures c.in_err-number.was
