use Rattle.std.proofs.Common.{◌≡◌, None, rules}
use Rattle.bully_picture.proofs.WrittenLemmas.{writes-nothing}
use Rattle.bully_picture.proofs.words.push_behind.Goals as goal

pub returns-in-Some : goal.returns-in-Some
returns-in-Some c = rw c.in-Some.is c.push_node.ensures

pub returns-in_default : goal.returns-in_default
returns-in_default c = let none : c.args.coordinator ≡ None = search rules in rw none (writes-nothing c.args.paper.now)
