use Rattle.std.specs.Option.{option_copied}
use Rattle.bully.proofs.ConfigLemmas.{plan-made}
use Rattle.bully.proofs.tables.plan_for.Goals as goal

pub returns-in-Ok : goal.returns-in-Ok
returns-in-Ok c =
    plan-made c.args.setup.now (option_copied c.args.old) c.args.members.now c.in-Ok.plan
    c.in-Ok.ensures.member c.in-Ok.ensures.planned c.in-Ok.ensures.fewest c.in-Ok.ensures.moves c.in-Ok.ensures.bound
