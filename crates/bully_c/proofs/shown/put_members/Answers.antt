use Rattle.std.proofs.Common.{◌≡◌, ◌+◌, ◌<◌, Some, None, arith, length, slice_get}
use Rattle.std.proofs.lemmas.Grind.{common_steps}
use Rattle.std.proofs.lemmas.Option.{slice_get-get_or}
use Rattle.bully_base.specs.declared.TheConstants.{NODES_MAX}
use Rattle.bully_c.proofs.RoomLemmas.{next-member, one-more}
use Rattle.bully_c.proofs.shown.put_members.Goals as goal
use Rattle.bully_c.proofs.shown.put_members.Goals.{in-Some, in-None}

pub loop-place-preserved : goal.loop-place-preserved
loop-place-preserved c =
    let set = c.args.set.now in let place = c.loop-place.place in
    elim c.match-next.branch [
      | in-Some w ↦
          let at : slice_get set place ≡ Some w.in-Some.node = grind (arith, c.loop-place.invariant.1, w.in-Some.is) in
          let low : place < length c.args.room.now = omega (arith, c.requires, c.loop-place-test.true, c.len-place-end.ensures.len) in (
            grind (arith, common_steps, w.room-is, w.number.ensures, c.loop-place.invariant.0, one-more place w.in-Some.node set c.args.room.now at low),
            grind (arith, w.next-is, w.below-next.ensures, next-member (NODES_MAX + 1) place w.in-Some.node set c.highest-next.ensures.falling at),
          )
      | in-None w ↦
          let none : slice_get set place ≡ None = grind (arith, c.loop-place.invariant.1, w.in-None.is) in
          let low : place < length set = omega (arith, c.loop-place-test.true, c.len-place-end.ensures.len) in
          absurd (grind (arith, none, slice_get-get_or set place 0 low))
    ]
