use Rattle.std.proofs.Common.{subst}
use Rattle.bully_picture.specs.Words.{behind_colon}
use Rattle.bully_picture.specs.Written.{Writes}
use Rattle.bully_picture.proofs.WrittenLemmas.{writes-nothing}
use Rattle.bully_picture.proofs.words.push_meaning.Goals as goal

pub returns-then-decides : goal.returns-then-decides
returns-then-decides c = rw c.if-decides.true (writes-nothing c.args.paper.now)

pub returns : goal.returns
returns c = rw c.if-decides.false (subst (λ words. Writes c.args.paper.now c.push_words.new.paper (behind_colon words)) c.meaning.ensures c.push_words.ensures)
