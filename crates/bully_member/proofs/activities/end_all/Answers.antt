use Rattle.std.proofs.Common.{arith, refl}
use Rattle.bully_member.proofs.ActivityLemmas.{changed_at, changed_whole}
use Rattle.bully_member.proofs.activities.end_all.Goals as goal
use Rattle.bully_member.specs.Activities.{end_at}
use Rattle.bully_member.specs.declared.values.Activity.{Activity}

pub loop-index-preserved : goal.loop-index-preserved
loop-index-preserved c =
    let below = c.loop-index-test.true in
    let end = c.loop-index.invariant.end in
    record {
      changed = changed_at end_at c.loop-index.index c.args.works.now c.loop-index.works Activity.Idle Activity.Idle c.loop-index.invariant.changed (omega (arith, below, end)) refl;
      end = end;
    }

pub returns : goal.returns
returns c =
    let past = c.loop-index-test.false in
    let end = c.loop-index.invariant.end in
    changed_whole end_at c.loop-index.index c.args.works.now c.loop-index.works c.loop-index.invariant.changed (omega (arith, past, end))
