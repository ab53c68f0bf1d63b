use Rattle.std.proofs.Common.{◌∙◌, ◌++◌, ap, codes}
use Rattle.std.specs.Fmt.{decimal}
use Rattle.bully_picture.proofs.TitleLemmas.{counted-written}
use Rattle.bully_picture.proofs.WrittenLemmas.{writes-as, writes-then}
use Rattle.bully_picture.proofs.page.push_counted.Goals as goal

pub returns : goal.returns
returns c =
    let before = c.args.before.now in
    let word = c.args.word.now in
    writes-as (ap (λ n. before ++ decimal n ++ codes " " ++ word ++ c.plural.result.now) c.from.ensures
    ∙ ap (λ s. before ++ decimal c.args.count ++ codes " " ++ word ++ s) c.plural.ensures ∙ counted-written before (decimal c.args.count) (codes " ") word _)
    (writes-then (writes-then c.push_number.ensures c.push.ensures) c.push-2.ensures)
