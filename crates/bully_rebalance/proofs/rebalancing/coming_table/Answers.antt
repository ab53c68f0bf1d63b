use Rattle.std.proofs.Common.{◌≡◌, ◌∙◌, rules, sym}
use Rattle.std.specs.Option.{option_copied}
use Rattle.bully_rebalance.proofs.LeaveLemmas.{planned_lem}
use Rattle.bully_rebalance.proofs.rebalancing.coming_table.Goals as goal
use Rattle.bully_rebalance.specs.Rebalancing.{table_before}
use Rattle.bully_table.specs.Planning.{planned}

pub returns-in-Ok-clause-comes : goal.returns-in-Ok-clause-comes
returns-in-Ok-clause-comes c = λ log more p is last.
    let r = c.args.replica.now in
    let old = table_before r.last (option_copied c.args.old) in
    let same : c.in-Ok.field-0.table ≡ planned r.world.setup old c.args.live.now = search rules in
    planned_lem r.world.setup log more old c.args.live.now p is c.requires.some last ∙ sym same
