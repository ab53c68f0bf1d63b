use Rattle.std.proofs.Common.{◌∙◌}
use Rattle.bully_table.proofs.BalanceSteps.{balanced-then, balanced-else}
use Rattle.bully_table.proofs.table.Table.is_balanced_in.Goals as goal

pub returns-then-are_members : goal.returns-then-are_members
returns-then-are_members c = balanced-then c.args.setup.now c.args.self.now c.deref.result.now c.deref-then-are_members.result.now c.args.members.now c.are_members.result c.are_fair.result (c.deref.ensures.value ∙ c.self.view_is) (c.deref-then-are_members.ensures.value ∙ c.self.view_is) c.are_members.ensures c.are_fair.ensures c.if-are_members.true

pub returns-else-are_members : goal.returns-else-are_members
returns-else-are_members c = balanced-else c.args.setup.now c.args.self.now c.deref.result.now c.args.members.now c.are_members.result (c.deref.ensures.value ∙ c.self.view_is) c.are_members.ensures c.if-are_members.false
