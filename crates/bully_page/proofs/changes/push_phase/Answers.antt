use Rattle.bully_picture.proofs.WrittenLemmas.{writes-as, writes-then}
use Rattle.bully_page.proofs.changes.push_phase.Goals as goal

pub returns-in-Sent : goal.returns-in-Sent
returns-in-Sent c = rw c.in-Sent.is c.push.ensures

pub returns-in-Ran : goal.returns-in-Ran
returns-in-Ran c = rw c.in-Ran.is (writes-then c.push-in-Ran.ensures (writes-as c.answer_word.ensures c.push-in-Ran-2.ensures))

pub returns-in-Failed : goal.returns-in-Failed
returns-in-Failed c = rw c.in-Failed.is c.push-in-Failed.ensures
