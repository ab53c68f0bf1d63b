use Rattle.std.specs.String.{string_bytes}
use Rattle.bully_world.specs.State.{world_of}
use Rattle.bully_world.specs.World.{vector}
use Rattle.bully_annotate.proofs.SaysLemmas.{shown-text, vector-there}
use Rattle.bully_annotate.proofs.saying.push_shown.Goals as goal

pub returns : goal.returns
returns c =
    let world = c.args.world.now in
    shown-text c.push_vector.result (string_bytes c.args.text.now) (string_bytes c.push_vector.new.text) c.args.node c.vector.result.now.vector (vector (world_of world) c.args.node)
    (vector-there world c.args.node c.vector.result.now c.vector.ensures.vector) c.push_vector.ensures
