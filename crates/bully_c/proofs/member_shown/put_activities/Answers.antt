use Rattle.std.proofs.Common.{◌≡◌, ◌∙◌, ◌<◌, Some, ap, arith, length, map, slice_set, sym}
use Rattle.std.proofs.lemmas.List.{get_or-map, length-map}
use Rattle.std.proofs.lemmas.Option.{slice_get-get_or}
use Rattle.bully_c.proofs.RoomLemmas.{one-more}
use Rattle.bully_c.proofs.member_shown.put_activities.Goals as goal
use Rattle.bully_c.specs.MemberNumbers.{activity_number}
use Rattle.bully_member.specs.declared.values.Activity.{Activity}

pub loop-partition-preserved : goal.loop-partition-preserved
loop-partition-preserved c =
    let activities = c.args.activities.now in
    let k = c.loop-partition.partition in
    let low : k < length activities = omega (arith, c.loop-partition-test.true, c.loop-partition.invariant.end) in
    let sized = length-map activities activity_number in
    let at = slice_get-get_or (map activity_number activities) k 0 (omega (arith, low, sized)) ∙ ap Some (get_or-map activity_number activities k Activity.Idle 0 low) in
    record {
      room = ap (λ room. slice_set room k c.of_activity.result) c.loop-partition.invariant.room ∙ one-more k c.of_activity.result (map activity_number activities) c.args.room.now (at ∙ ap Some (sym c.of_activity.ensures)) (omega (arith, low, c.requires));
      end = c.loop-partition.invariant.end;
    }
