use Rattle.std.proofs.Common.{◌<◌, ◌≤◌, length, sym, arith}
use Rattle.std.proofs.lemmas.Option.{get_or_from_slice_get}
use Rattle.bully_page.specs.Page.{owner_text}
use Rattle.bully_picture.proofs.WrittenLemmas.{pieces-all, pieces-more}
use Rattle.bully_page.proofs.changes.push_owners.Goals as goal

pub loop-place-preserved : goal.loop-place-preserved
loop-place-preserved c =
    let owners = c.args.table.now in
    let within : c.loop-place.place < length owners = omega (arith, c.loop-place.invariant.end, c.loop-place-test.true) in
    record {
      owners = pieces-more owner_text owners c.loop-place.place c.owner.result c.args.page.now c.loop-place.page c.push_node.new.self within
          (sym (get_or_from_slice_get owners c.loop-place.place c.owner.result c.owner.result c.owner.ensures)) c.loop-place.invariant.owners c.push_node.ensures;
      end = c.loop-place.invariant.end;
    }

pub returns : goal.returns
returns c =
    let all : length c.args.table.now ≤ c.loop-place.place = omega (arith, c.loop-place.invariant.end, c.loop-place-test.false) in
    pieces-all owner_text c.args.table.now c.loop-place.place c.args.page.now c.loop-place.page all c.loop-place.invariant.owners
