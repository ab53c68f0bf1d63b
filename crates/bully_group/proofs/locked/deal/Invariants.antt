use Rattle.std.proofs.Common.{◌≡◌, ◌+◌, ◌≤◌, vec_capacity, replicate}
use Rattle.bully_group.proofs.locked.deal.Given as goal

abbrev pub invariant-loop-dealt : goal.invariant-loop-dealt
invariant-loop-dealt g l =
    (l.share.parts + l._dealt ≡ l.count) × (l.share.amount ≡ 0) × (l.passes.items ≡ replicate l._dealt 0) × (l.count ≤ vec_capacity l.passes)
