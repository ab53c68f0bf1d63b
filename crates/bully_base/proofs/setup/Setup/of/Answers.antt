use Rattle.std.proofs.Common.{refl}
use Rattle.bully_base.proofs.SetupLemmas.{setup-written}
use Rattle.bully_base.proofs.setup.Setup.of.Goals as goal

pub invariant_of-result : goal.invariant_of-result
invariant_of-result c = setup-written c.args.limits c.args.keeps c.args.weights.now _ c.nodes.ensures.within c.requires (rw (c.copy_from_slice.ensures.after, c.from-nodes.ensures, c.nodes.ensures.nodes) refl)
