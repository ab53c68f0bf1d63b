use Rattle.std.proofs.Common.{◌≤◌, arith}
use Rattle.bully_c.proofs.LeaseLemmas.{last-own}
use Rattle.bully_c.proofs.member_told.read.Goals as goal

pub snapshot_read-requires : goal.snapshot_read-requires
snapshot_read-requires c = λ same k d low.
    let within = c.requires k d low in
    (within.0, omega (arith, within.1, last-own c.args.member.now c.args.epoch same))
