use Rattle.std.proofs.Common.{◌∙◌, ap, sym}
use Rattle.std.specs.Option.{option_copied}
use Rattle.bully_picture.proofs.ShownLemmas.{said-bare, said-whole}
use Rattle.bully_picture.proofs.WrittenLemmas.{writes-as}
use Rattle.bully_picture.proofs.words.push_said.Goals as goal

pub returns-in-Some : goal.returns-in-Some
returns-in-Some c = writes-as (sym (said-whole c.args.scene.now c.in-Some.row.now (sym c.row.ensures ∙ ap option_copied c.in-Some.is))) c.push_row.ensures

pub returns-in-None : goal.returns-in-None
returns-in-None c = writes-as (sym (said-bare c.args.scene.now (sym c.row.ensures ∙ ap option_copied c.in-None.is))) c.push_row_text.ensures
