-- What the two parts have, the page has; and the picture between them.
use Rattle.std.proofs.Common.{◌++◌, codes, length, map, refl, string_bytes}
use Rattle.bully_film.specs.Lane.{row_before}
use Rattle.bully_picture.specs.Title.{Has, title_text}
use Rattle.bully_picture.proofs.TitleLemmas.{has-verdict}
use Rattle.bully_trace.specs.VerdictText.{verdict_head}
use Rattle.bully_page.specs.Page.{HasLines, IsPage, behind_text, front_text, headed, rows_text, titled}
use Rattle.bully_page.proofs.PageLemmas.{has-behind, has-titled, in-page, lines-behind, of-front, page-ends, page-whole}
use Rattle.bully_page.proofs.page.html_page.Goals as goal

pub returns-clause-document : goal.returns-clause-document
returns-clause-document c =
    in-page string_bytes c.front_of-front.result c.behind_of-behind.result c.args.picture.now IsPage c.joined.result c.joined.ensures.front c.joined.ensures.behind c.joined.ensures.text
    (λ one other. page-ends c.front_of-front.result.text c.args.picture.now c.behind_of-behind.result.text (c.front_of-front.ensures.begins one) (c.behind_of-behind.ensures.ends other))

pub returns-clause-verdict : goal.returns-clause-verdict
returns-clause-verdict c =
    let finished = c.args.finished.now in
    let title = title_text finished.verdict finished.setup.nodes finished.setup.partitions (row_before finished.scenes.items) (length finished.scenes.items) in
    let page = c.front_of-front.result.text in
    in-page string_bytes c.front_of-front.result c.behind_of-behind.result c.args.picture.now (λ text. Has text (verdict_head finished.verdict)) c.joined.result
    c.joined.ensures.front c.joined.ensures.behind c.joined.ensures.text
    (λ one other. of-front page c.args.picture.now c.behind_of-behind.result.text (verdict_head finished.verdict)
    (has-verdict page finished.verdict finished.setup.nodes finished.setup.partitions (row_before finished.scenes.items) (length finished.scenes.items)
    (has-titled page title (c.front_of-front.ensures.title one))))

pub returns-clause-title : goal.returns-clause-title
returns-clause-title c =
    let finished = c.args.finished.now in
    let title = title_text finished.verdict finished.setup.nodes finished.setup.partitions (row_before finished.scenes.items) (length finished.scenes.items) in
    in-page string_bytes c.front_of-front.result c.behind_of-behind.result c.args.picture.now (λ text. Has text (titled title)) c.joined.result
    c.joined.ensures.front c.joined.ensures.behind c.joined.ensures.text
    (λ one other. of-front c.front_of-front.result.text c.args.picture.now c.behind_of-behind.result.text (titled title) (c.front_of-front.ensures.title one))

pub returns-clause-heading : goal.returns-clause-heading
returns-clause-heading c =
    let finished = c.args.finished.now in
    let title = title_text finished.verdict finished.setup.nodes finished.setup.partitions (row_before finished.scenes.items) (length finished.scenes.items) in
    in-page string_bytes c.front_of-front.result c.behind_of-behind.result c.args.picture.now (λ text. Has text (headed title)) c.joined.result
    c.joined.ensures.front c.joined.ensures.behind c.joined.ensures.text
    (λ one other. of-front c.front_of-front.result.text c.args.picture.now c.behind_of-behind.result.text (headed title) (c.front_of-front.ensures.heading one))

pub returns-clause-picture : goal.returns-clause-picture
returns-clause-picture c =
    in-page string_bytes c.front_of-front.result c.behind_of-behind.result c.args.picture.now (λ text. Has text c.args.picture.now) c.joined.result
    c.joined.ensures.front c.joined.ensures.behind c.joined.ensures.text (λ one other. (c.front_of-front.result.text, c.behind_of-behind.result.text, refl))

pub returns-clause-below : goal.returns-clause-below
returns-clause-below c =
    in-page string_bytes c.front_of-front.result c.behind_of-behind.result c.args.picture.now (λ text. HasLines text c.args.below.now) c.joined.result
    c.joined.ensures.front c.joined.ensures.behind c.joined.ensures.text
    (λ one other. lines-behind (c.front_of-front.result.text ++ c.args.picture.now) c.behind_of-behind.result.text c.args.below.now (c.behind_of-behind.ensures.below other))

pub returns-clause-rows : goal.returns-clause-rows
returns-clause-rows c =
    let finished = c.args.finished.now in
    let names = map (λ s. s.now) c.args.names.now in
    let rows = codes "<div id=\"rows\">\n" ++ rows_text c.args.claims finished.verdict finished.setup.nodes names finished.scenes.items ++ codes "</div>\n" in
    in-page string_bytes c.front_of-front.result c.behind_of-behind.result c.args.picture.now (λ text. Has text rows) c.joined.result
    c.joined.ensures.front c.joined.ensures.behind c.joined.ensures.text
    (λ one other. has-behind (c.front_of-front.result.text ++ c.args.picture.now) c.behind_of-behind.result.text rows (c.behind_of-behind.ensures.rows other))

pub returns-clause-whole : goal.returns-clause-whole
returns-clause-whole c =
    let finished = c.args.finished.now in
    page-whole string_bytes c.front_of-front.result c.behind_of-behind.result
    (front_text (title_text finished.verdict finished.setup.nodes finished.setup.partitions (row_before finished.scenes.items) (length finished.scenes.items)))
    c.args.picture.now
    (behind_text c.args.below.now (rows_text c.args.claims finished.verdict finished.setup.nodes (map (λ s. s.now) c.args.names.now) finished.scenes.items))
    c.joined.result c.joined.ensures.front c.joined.ensures.behind c.joined.ensures.text c.front_of-front.ensures.text c.behind_of-behind.ensures.text
