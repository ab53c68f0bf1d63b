-- std's parse gives the number that the digits spell.
use Rattle.std.proofs.Common.{◌≡◌, true, arith}
use Rattle.bully_table.specs.Numeral.{is_numeral}
use Rattle.bully_lines.proofs.LineLemmas.{parsed_err, parsed_ok}
use Rattle.bully_lines.proofs.fields.read_large_number.Goals as goal

pub returns-in-Ok : goal.returns-in-Ok
returns-in-Ok c =
    let form : is_numeral c.args.text.now ≡ true = grind (arith, c.if-not-is_numeral.false, c.is_numeral.ensures, c.as_bytes.ensures.value) in
    parsed_ok c.args.text.now c.parse.result c.parse.ensures.value.0 form c.in-Ok.number c.in-Ok.is

pub returns-in-Err : goal.returns-in-Err
returns-in-Err c =
    let form : is_numeral c.args.text.now ≡ true = grind (arith, c.if-not-is_numeral.false, c.is_numeral.ensures, c.as_bytes.ensures.value) in
    parsed_err c.args.text.now c.parse.result c.parse.ensures.value.0 form c.in-Err.field-0 c.in-Err.is
