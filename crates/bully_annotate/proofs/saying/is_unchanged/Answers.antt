use Rattle.std.proofs.Common.{◌∙◌, ap}
use Rattle.bully_handlers.specs.Vector.{Vector}
use Rattle.bully_annotate.specs.Annotated.{same_vector}
use Rattle.bully_annotate.proofs.SaysLemmas.{vector-there}
use Rattle.bully_annotate.proofs.saying.is_unchanged.Goals as goal

pub returns : goal.returns
returns c =
    c.is_same.ensures ∙ ap (λ (v : Vector). same_vector c.args.seen.now.vector v) (vector-there c.args.world.now c.args.node c.vector.result.now c.vector.ensures.vector)
