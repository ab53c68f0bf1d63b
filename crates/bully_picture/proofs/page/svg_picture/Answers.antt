-- What stands on the picture stands in its text.
use Rattle.std.proofs.Common.{length, string_bytes}
use Rattle.std.specs.Prelude.{option_map, slice_get}
use Rattle.bully_film.specs.Lane.{row_before}
use Rattle.bully_film.specs.Scene.{lane_of}
use Rattle.bully_picture.specs.Bars.{HasStands, shows_rows}
use Rattle.bully_picture.specs.Drawn.{HasBelow, HasCalls, HasNodes, HasRows, HasSaid, scenes_shown}
use Rattle.bully_picture.specs.Head.{HasHead}
use Rattle.bully_picture.specs.Title.{IsDocument, title_text}
use Rattle.bully_picture.proofs.WrittenLemmas.{in-text}
use Rattle.bully_picture.proofs.page.svg_picture.Goals as goal

pub returns-clause-document : goal.returns-clause-document
returns-clause-document c =
    in-text string_bytes c.picture_on-picture.result IsDocument c.into_text.result c.into_text.ensures.whole c.into_text.ensures.text c.picture_on-picture.ensures.document

pub returns-clause-head : goal.returns-clause-head
returns-clause-head c =
    let finished = c.args.finished.now in
    in-text string_bytes c.picture_on-picture.result
    (λ text. HasHead text c.args.around finished.verdict
    (title_text finished.verdict finished.setup.nodes finished.setup.partitions (row_before finished.scenes.items) (length finished.scenes.items)))
    c.into_text.result c.into_text.ensures.whole c.into_text.ensures.text c.picture_on-picture.ensures.head

pub returns-clause-rows : goal.returns-clause-rows
returns-clause-rows c =
    in-text string_bytes c.picture_on-picture.result (λ text. HasRows text c.args.finished.now.verdict (scenes_shown c.args.claims c.args.finished.now.verdict c.args.finished.now.scenes.items))
    c.into_text.result c.into_text.ensures.whole c.into_text.ensures.text c.picture_on-picture.ensures.rows

pub returns-clause-says : goal.returns-clause-says
returns-clause-says c =
    in-text string_bytes c.picture_on-picture.result
    (λ text. HasSaid text c.args.finished.now.verdict (scenes_shown c.args.claims c.args.finished.now.verdict c.args.finished.now.scenes.items))
    c.into_text.result c.into_text.ensures.whole c.into_text.ensures.text c.picture_on-picture.ensures.says

pub returns-clause-nodes : goal.returns-clause-nodes
returns-clause-nodes c =
    in-text string_bytes c.picture_on-picture.result (λ text. HasNodes text c.args.finished.now.setup.nodes (λ i. option_map (λ s. s.now) (slice_get c.args.names.now i)))
    c.into_text.result c.into_text.ensures.whole c.into_text.ensures.text c.picture_on-picture.ensures.nodes

pub returns-clause-bars : goal.returns-clause-bars
returns-clause-bars c = λ window trace is.
    in-text string_bytes c.picture_on-picture.result
    (λ text. HasStands text (shows_rows c.args.finished.now.scenes.items) c.args.finished.now.setup.nodes (row_before c.args.finished.now.scenes.items) (λ i. lane_of trace.setup is.before i is.shown))
    c.into_text.result c.into_text.ensures.whole c.into_text.ensures.text (c.picture_on-picture.ensures.bars window trace is)

pub returns-clause-calls : goal.returns-clause-calls
returns-clause-calls c = λ window trace is.
    in-text string_bytes c.picture_on-picture.result
    (λ text. HasCalls text c.args.finished.now.setup.nodes (row_before c.args.finished.now.scenes.items) (λ i. lane_of trace.setup is.before i is.shown))
    c.into_text.result c.into_text.ensures.whole c.into_text.ensures.text (c.picture_on-picture.ensures.calls window trace is)

pub returns-clause-below : goal.returns-clause-below
returns-clause-below c =
    in-text string_bytes c.picture_on-picture.result (λ text. HasBelow text c.args.below.now) c.into_text.result c.into_text.ensures.whole c.into_text.ensures.text c.picture_on-picture.ensures.below
