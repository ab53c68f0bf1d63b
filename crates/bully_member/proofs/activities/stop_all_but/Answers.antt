use Rattle.std.proofs.Common.{arith}
use Rattle.std.specs.Option.{option_copied}
use Rattle.bully_member.proofs.ActivityLemmas.{changed_at, changed_whole}
use Rattle.bully_member.proofs.activities.stop_all_but.Goals as goal
use Rattle.bully_member.specs.Activities.{stop_at}

pub loop-index-preserved : goal.loop-index-preserved
loop-index-preserved c =
    let below = c.loop-index-test.true in
    let end = c.loop-index.invariant.end in
    record {
      changed = changed_at (stop_at (option_copied c.args.table) c.args.node) c.loop-index.index c.args.works.now c.loop-index.works _ _ c.loop-index.invariant.changed (omega (arith, below, end)) c.stop_at.ensures;
      end = end;
    }

pub returns : goal.returns
returns c =
    let past = c.loop-index-test.false in
    let end = c.loop-index.invariant.end in
    changed_whole (stop_at (option_copied c.args.table) c.args.node) c.loop-index.index c.args.works.now c.loop-index.works c.loop-index.invariant.changed (omega (arith, past, end))
