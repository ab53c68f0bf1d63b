use Rattle.std.proofs.Common.{List, ℕ, Option, arith, subst}
use Rattle.bully_base.specs.NodeSet.{with_node}
use Rattle.bully_base.specs.Setup.{Setup}
use Rattle.bully_table.specs.Planning.{owners_before, quota}
use Rattle.bully_table.proofs.PlannedLemmas.{planned-covers}
use Rattle.bully_c.specs.Arguments.{AreGiven}
use Rattle.bully_c.proofs.agents.prepared.Goals as goal

pub returns-in-Ok-clause-ok : goal.returns-in-Ok-clause-ok
returns-in-Ok-clause-ok c = (
  subst (λ (s : Setup). AreGiven s c.args.old.now) c.setup-setup.ensures.setup c.in_ok-old.ensures.owners,
  grind (arith, c.in-Ok.ensures, c.as_ref.ensures.value, c.in_ok-old.ensures.ok),
)

pub returns-in-Ok-clause-count : goal.returns-in-Ok-clause-count
returns-in-Ok-clause-count c =
    let a = c.args.agent.now in let members = with_node a.node a.node_state.vector.vector.up in
    let all = λ (old : Option (List ℕ)). planned-covers (quota a.setup (owners_before old) members) a.setup.partitions (owners_before old) members in
    grind (arith, c.in-Ok.ensures, all, c.if-count-from.false, c.from.ensures, c.partitions.ensures.partitions, c.setup-setup.ensures.setup)
