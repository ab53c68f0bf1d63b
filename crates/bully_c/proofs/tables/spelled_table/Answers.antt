use Rattle.std.proofs.Common.{◌≡◌, arith}
use Rattle.std.proofs.lemmas.Grind.{common_steps}
use Rattle.bully_rows.proofs.ListTexts.{table-read}
use Rattle.bully_table.specs.TableText.{owners_text}
use Rattle.bully_c.proofs.tables.spelled_table.Goals as goal

pub returns-in-Ok-read_in : goal.returns-in-Ok-read_in
returns-in-Ok-read_in c =
    let text : c.as_bytes.result.now ≡ owners_text 32 c.args.owners.now = grind (arith, common_steps, c.as_bytes.ensures.value, c.in-Ok.ensures, c.new-text.ensures.bytes) in
    let read = table-read c.args.setup.now c.args.owners.now c.requires.within c.requires.owners in
    grind (arith, text, read, c.in-Ok-read_in.ensures.ok)
