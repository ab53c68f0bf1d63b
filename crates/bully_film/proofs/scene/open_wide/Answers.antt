use Rattle.std.proofs.Common.{◌∙◌, ap}
use Rattle.bully_film.specs.Scene.{cuts, snapshot}
use Rattle.bully_world.specs.State.{world_of}
use Rattle.bully_film.proofs.scene.open_wide.Goals as goal

pub returns-clause-other_before : goal.returns-clause-other_before
returns-clause-other_before c =
    let w = world_of c.args.world.now in
    c.snapshot_beside.ensures ∙ ap (snapshot w) (c.place_at-other.ensures w c.snapshot_of-own_before.ensures)

pub returns-clause-cuts : goal.returns-clause-cuts
returns-clause-cuts c =
    let w = world_of c.args.world.now in
    c.cuts.ensures c.args.own c.snapshot_of-own_before.ensures ∙ ap (λ j. cuts w c.args.own j c.args.event_kind) (c.place_at-other.ensures w c.snapshot_of-own_before.ensures)
