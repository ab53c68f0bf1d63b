use Rattle.std.proofs.Common.{ap, codes}
use Rattle.bully_picture.specs.Words.{followed_text}
use Rattle.bully_picture.proofs.WrittenLemmas.{writes-as, writes-then}
use Rattle.bully_page.proofs.changes.push_snapshot.Goals as goal

pub returns : goal.returns
returns c =
    writes-then (writes-then (writes-then (writes-then (writes-then (writes-then (writes-then (writes-then c.push.ensures (writes-as c.bold_start.ensures c.push-2.ensures))
    (writes-as (ap (λ word. followed_text word (codes " under ") c.args.snapshot.now.coordinator) c.status_word.ensures) c.push_followed.ensures))
    (writes-as c.bold_end.ensures c.push-3.ensures)) c.push-4.ensures) (writes-as c.bold_start-2.ensures c.push-5.ensures)) c.push_call.ensures)
    (writes-as c.bold_end-2.ensures c.push-6.ensures)) c.push-7.ensures
