use Rattle.std.proofs.Common.{[], map, string_bytes, subst, sym}
use Rattle.bully_picture.specs.declared.around.Around.{Around}
use Rattle.bully.specs.DrawAnswer.{IsSvgOf}
use Rattle.bully.proofs.DrawLemmas.{page-picture}
use Rattle.bully.proofs.drawing.page_of.Goals as goal

pub returns : goal.returns
returns c =
    let finished = c.args.finished.now in
    let names = map (λ s. s.now) c.args.names.now in
    let below = c.args.below.now in
    page-picture string_bytes c.html_page.result c.args.claims finished names below c.as_str.result.now
    (subst (IsSvgOf c.args.claims Around.Page finished names []) (sym c.as_str.ensures.value) c.in_ok-picture.ensures)
    c.html_page.ensures.document c.html_page.ensures.title c.html_page.ensures.heading c.html_page.ensures.picture c.html_page.ensures.below c.html_page.ensures.rows c.html_page.ensures.whole
