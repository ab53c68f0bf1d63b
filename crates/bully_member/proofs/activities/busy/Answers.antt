use Rattle.std.proofs.Common.{rules, arith}
use Rattle.bully_member.proofs.ActivityLemmas.{busy_at, busy_whole}
use Rattle.bully_member.proofs.activities.busy.Goals as goal
use Rattle.bully_member.specs.declared.values.Activity.{Activity}

pub loop-index-preserved : goal.loop-index-preserved
loop-index-preserved c =
    let below = c.loop-index-test.true in
    let end = c.loop-index.invariant.end in
    record {
      found = busy_at c.loop-index.index c.args.works.now Activity.Idle c.loop-index.partitions.items c.push_unless.new.partitions.items c.loop-index.invariant.found (omega (arith, below, end)) (search (rules, c.push_unless.ensures, c.is_idle.ensures));
      end = end;
    }

pub returns : goal.returns
returns c =
    let past = c.loop-index-test.false in
    let end = c.loop-index.invariant.end in
    busy_whole c.loop-index.index c.args.works.now c.loop-index.partitions.items c.loop-index.invariant.found (omega (arith, past, end))
