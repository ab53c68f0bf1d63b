use Rattle.std.proofs.Common.{◌∙◌, ◌++◌, ap, codes}
use Rattle.bully_picture.specs.Told.{heads_text, told_text}
use Rattle.bully_picture.proofs.ToldLemmas.{told-world}
use Rattle.bully_picture.proofs.WrittenLemmas.{extends-written, writes-as}
use Rattle.bully_picture.proofs.columns.push_lines.Goals as goal

pub returns-clause-extends : goal.returns-clause-extends
returns-clause-extends c = extends-written c.push_rows.ensures

pub returns-clause-whole : goal.returns-clause-whole
returns-clause-whole c = λ window trace is.
    let finished = c.args.finished.now in
    let nodes = finished.setup.nodes in
    writes-as (ap (λ rows. heads_text nodes ++ told_text finished.verdict nodes 0 rows ++ codes "\n")
    (told-world window trace finished is c.as_mut_slice.result.now (c.as_mut_slice.ensures.value ∙ c.in_ok-push_starts.ensures window trace is))) c.push_rows.ensures
