use Rattle.std.proofs.Common.{rules, ◌≡◌, Bool, true, false, refl, sym, ◌∙◌}
use Rattle.std.specs.Prelude.{IsTrue}
use Rattle.bully_member.proofs.LiveLemmas.{has_is}
use Rattle.bully_member.proofs.member.outlook.has.Goals as goal

pub returns : goal.returns
returns c = has_is c.args.nodes.now c.args.node _ c.has.ensures
