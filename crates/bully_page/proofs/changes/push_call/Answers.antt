use Rattle.bully_page.proofs.changes.push_call.Goals as goal

pub returns-in-Some : goal.returns-in-Some
returns-in-Some c = rw c.in-Some.is c.push_held.ensures

pub returns-in-None : goal.returns-in-None
returns-in-None c = rw c.in-None.is c.push.ensures
