use Rattle.bully_account.proofs.MovingLemmas.{orphan-told}
use Rattle.bully_account.proofs.moving.holds_no_orphan.Goals as goal

pub returns : goal.returns
returns c = orphan-told c.args.world.now c.args.node c.slot.result.now c.generation.result c.is_orphan.result c.slot.ensures.slot c.generation.ensures c.is_orphan.ensures
