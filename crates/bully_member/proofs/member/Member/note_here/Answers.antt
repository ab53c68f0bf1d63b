use Rattle.std.proofs.Common.{ap, ◌∙◌}
use Rattle.bully_member.proofs.OwnLemmas.{own_found}
use Rattle.bully_member.proofs.member.Member.note_here.Goals as goal
use Rattle.bully_member.specs.Member.{admitted_among}
use Rattle.bully_member.specs.Told.{with_own}

pub returns-in-Ok-clause-found : goal.returns-in-Ok-clause-found
returns-in-Ok-clause-found c =
    own_found c.args.self.now c.args.now c.args.leases.items c.args.has_unknown c.args.has_request c.in-Ok.outlook.group c.in-Ok.outlook.coming c.in-Ok.outlook.affected c.note_own.new.self
    (c.in-Ok.ensures.group ∙ ap (admitted_among c.args.self.now c.args.now) c.deref.ensures.value)
    (c.note_own.ensures ∙ ap with_own c.note_found.ensures)
