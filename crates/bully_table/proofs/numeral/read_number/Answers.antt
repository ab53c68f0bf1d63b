use Rattle.std.proofs.Common.{◌≡◌, ◌+◌, ◌-◌, ◌*◌, arith, true, slice_index_or, refl, sym, ◌∙◌}
use Rattle.std.proofs.lemmas.Grind.{common_steps}
use Rattle.bully_table.specs.Numeral.{is_digit}
use Rattle.bully_table.proofs.NumeralLemmas.{told, answered-step, answered-end}
use Rattle.bully_table.proofs.numeral.read_number.Goals as goal

pub loop-digit-preserved : goal.loop-digit-preserved
loop-digit-preserved c =
    let text = c.args.text.now in
    let i = c.loop-digit.digit-index in
    let digit : is_digit (slice_index_or text i 0) ≡ true = grind (arith, common_steps, c.is_ascii_digit.ensures.cases) in
    let next : c.min-number.result ≡ told (c.loop-digit.number * 10 + (slice_index_or text i 0 - 48)) = omega arith in
    (omega (arith, next), sym (answered-step text c.loop-digit.number c.min-number.result i _ c.loop-digit-test.true refl digit next) ∙ c.loop-digit.invariant.1)

pub returns : goal.returns
returns c = sym (answered-end c.args.text.now c.loop-digit.number c.loop-digit.digit-index c.loop-digit-test.false c.loop-digit.invariant.0) ∙ c.loop-digit.invariant.1
