use Rattle.bully_picture.proofs.WrittenLemmas.{writes-nothing}
use Rattle.bully_picture.proofs.page.push_title_line.Goals as goal

pub returns-in-Nothing : goal.returns-in-Nothing
returns-in-Nothing c = rw c.in-Nothing.is c.push_whole_title.ensures

pub returns-in-Page : goal.returns-in-Page
returns-in-Page c = rw c.in-Page.is (writes-nothing c.args.picture.now)
