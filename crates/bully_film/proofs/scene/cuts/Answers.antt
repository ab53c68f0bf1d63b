use Rattle.std.proofs.Common.{◌≡◌, true, false, rules, refl}
use Rattle.bully_world.specs.Place.{call_at}
use Rattle.bully_film.specs.Scene.{is_halting, is_run}
use Rattle.bully_world.specs.State.{world_of}
use Rattle.bully_film.proofs.scene.cuts.Goals as goal

pub returns-then-not-is_halting : goal.returns-then-not-is_halting
returns-then-not-is_halting c = λ i same.
    let run : is_run c.args.event_kind ≡ true = search rules in
    let other : is_halting (call_at (world_of c.args.world.now) i) ≡ false = rw (← c.is_halting.ensures (world_of c.args.world.now) i same) (search rules) in
    rw (run, other) refl

pub returns : goal.returns
returns c = λ i same.
    let run : is_run c.args.event_kind ≡ true = search rules in
    let halts : is_halting (call_at (world_of c.args.world.now) i) ≡ true = rw (← c.is_halting.ensures (world_of c.args.world.now) i same) (search rules) in
    rw (run, halts, c.is_idle.ensures) refl
