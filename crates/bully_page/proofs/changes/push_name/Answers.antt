use Rattle.std.proofs.Common.{◌≡◌, None, rules}
use Rattle.bully_picture.proofs.WrittenLemmas.{writes-nothing, writes-then}
use Rattle.bully_page.proofs.changes.push_name.Goals as goal

pub returns-in-Some : goal.returns-in-Some
returns-in-Some c = rw c.in-Some.is (writes-then (writes-then c.push.ensures c.push_escaped.ensures.escaped) c.push-in-Some.ensures)

pub returns-in_default : goal.returns-in_default
returns-in_default c = let none : c.args.name ≡ None = search rules in rw none (writes-nothing c.args.page.now)
