use Rattle.std.proofs.Common.{◌-◌, length, drop, arith, length-take}
use Rattle.bully.proofs.KnownBytesLemmas.{appends-next}
use Rattle.bully.proofs.telling.put.Goals as goal

pub loop-written-preserved : goal.loop-written-preserved
loop-written-preserved g c =
    let done = c.loop-written.written in
    let n = c.in-Ok.count in
    let text = c.args.bytes.now in
    let most = length-take (length text - done) (drop done text) in
    let before = c.loop-written.invariant in
    let fits = c.in-Ok.ensures.bound in
    (omega arith, appends-next _ _ _ text done n (omega arith) before.1 c.in-Ok.ensures.bytes)
