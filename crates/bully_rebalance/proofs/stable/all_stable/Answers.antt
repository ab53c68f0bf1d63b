use Rattle.std.proofs.Common.{rules, ◌≡◌, ◌+◌, arith}
use Rattle.bully_rebalance.proofs.StableLemmas.{stable_more}
use Rattle.bully_rebalance.proofs.stable.all_stable.Goals as goal
use Rattle.bully_rebalance.specs.Stable.{IsStableIn}
use Rattle.bully_world.specs.State.{world_of}
use Rattle.bully_world.specs.World.{vector}

pub loop-before-preserved : goal.loop-before-preserved
loop-before-preserved c =
    let w = world_of c.args.world.now in
    let node = c.unwrap-node.result in
    let next : c.loop-before.before + 1 ≡ node = grind (arith, c.new.ensures, c.unwrap-node.ensures) in
    let here : IsStableIn c.args.live.now node (vector w node) = search (rules, c.is_stable_in.ensures, c.if-not-is_stable_in.ensures, c.if-not-is_stable_in.false) in
    record {
      first = stable_more w c.args.live.now c.loop-before.before node next c.loop-before.invariant.first here;
      end = c.loop-before.invariant.end;
    }
