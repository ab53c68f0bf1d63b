use Rattle.std.proofs.Common.{◌≡◌, ◌≢◌, ◌+◌, arith}
use Rattle.bully_base.specs.declared.node.Status.TheVariants.{Normal}
use Rattle.bully_world.specs.State.{world_of}
use Rattle.bully_world.specs.World.{vector}
use Rattle.bully_agree.proofs.LeaderLemmas.{none-all, none-more, vector-here}
use Rattle.bully_agree.proofs.ViewLemmas.{count_of_reached}
use Rattle.bully_agree.proofs.leading.first_normal.Goals as goal

pub loop-before-preserved : goal.loop-before-preserved
loop-before-preserved c =
    let w = c.args.world.now in
    let node = c.unwrap-node.result in
    let next : c.loop-before.before + 1 ≡ node = grind (arith, c.new.ensures, c.unwrap-node.ensures) in
    let here : (vector (world_of w) node).status ≢ Normal = λ is. grind (arith, is, vector-here w node, c.vector.ensures.vector, c.status.ensures, c.eq.ensures, c.if-eq.ensures, c.if-eq.false) in
    record {
      none = none-more (world_of w) c.loop-before.before node next c.loop-before.invariant.none here;
      end = c.loop-before.invariant.end;
    }

pub returns-clause-none : goal.returns-clause-none
returns-clause-none c =
    let w = c.args.world.now in
    let count = count_of_reached w c.setup.ensures.reached in
    none-all w c.loop-before.before (omega (arith, count, c.loop-before.invariant.end, c.loop-before-test.false)) c.loop-before.invariant.none
