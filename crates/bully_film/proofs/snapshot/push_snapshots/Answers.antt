use Rattle.std.proofs.Common.{◌≡◌, ◌<◌, ◌+◌, ◌++◌, ◌∷◌, [], arith, rules}
use Rattle.bully_film.specs.declared.snapshot.NodeSnapshot.{NodeSnapshot}
use Rattle.bully_film.specs.Scene.{snapshot}
use Rattle.bully_world.specs.State.{world_of}
use Rattle.bully_film.proofs.LaneLemmas.{snapshots-more}
use Rattle.bully_film.proofs.snapshot.push_snapshots.Goals as goal

pub loop-before-preserved : goal.loop-before-preserved
loop-before-preserved c =
    let number : c.unwrap-node.result ≡ c.loop-before.before + 1 = grind (arith, c.new.ensures, c.unwrap-node.ensures) in
    let nodes = c.args.world.now.setup.nodes in
    let below : c.loop-before.before < nodes = omega (arith, c.loop-before.invariant.end, c.loop-before-test.true) in
    let seen : NodeSnapshot = record { status = c.snapshot_of-status.result.status; coordinator = c.snapshot_of-status.result.coordinator; call = c.snapshot_of-status.result.call } in
    let is : seen ≡ snapshot (world_of c.args.world.now) c.unwrap-node.result = c.snapshot_of-status.ensures in
    let all : c.push_reserved.new.self.items ≡ c.loop-before.snapshots.items ++ seen ∷ [] = c.push_reserved.ensures.items in
    record {
      rest = snapshots-more (world_of c.args.world.now) c.loop-before.snapshots.items c.push_reserved.new.self.items c.loop-before.before nodes c.unwrap-node.result seen number below is all c.loop-before.invariant.rest;
      room = search rules;
      count = search rules;
      end = c.loop-before.invariant.end;
    }
