use Rattle.std.proofs.Common.{arith, refl}
use Rattle.std.proofs.lemmas.Bool.Decides.{nat_tests}
use Rattle.std.proofs.lemmas.Grind.{common_steps}
use Rattle.std.proofs.lemmas.List.Elements.{All-more, All-same}
use Rattle.bully_c.specs.OldTables.{IsOldOwner}
use Rattle.bully_c.proofs.old_tables.are_old.Goals as goal

pub loop-owner-preserved : goal.loop-owner-preserved
loop-owner-preserved c =
    All-more (IsOldOwner c.args.setup.now) c.args.owners.now c.loop-owner.owner-index 0 c.loop-owner-test.true c.loop-owner.invariant
    (grind (arith, nat_tests, common_steps, c.nodes-nodes.ensures.nodes))

pub returns : goal.returns
returns c = (λ t. All-same (IsOldOwner c.args.setup.now) c.args.owners.now _ (grind (arith, common_steps)) c.loop-owner.invariant, λ all. refl)
