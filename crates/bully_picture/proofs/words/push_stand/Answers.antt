use Rattle.std.proofs.Common.{codes, subst}
use Rattle.bully_picture.specs.Words.{followed_text}
use Rattle.bully_picture.specs.Written.{Writes}
use Rattle.bully_picture.proofs.words.push_stand.Goals as goal

pub returns : goal.returns
returns c =
    subst (λ word. Writes c.args.paper.now c.push_followed.new.paper (followed_text word (codes " under ") c.args.stand.coordinator)) c.status_word.ensures c.push_followed.ensures
