use Rattle.std.proofs.Common.{◌≡◌, ◌+◌, vec_len, sum}
use Rattle.bully_group.proofs.locked.finish.add_up.Given as goal

abbrev pub invariant-loop-pass : goal.invariant-loop-pass
invariant-loop-pass g l = (l.all.parts + vec_len l.passes ≡ g.L.Ledger.parts) × (l.all.amount + sum l.passes.items ≡ sum l.fn.passes.items)

abbrev pub decreases-loop-pass : goal.decreases-loop-pass
decreases-loop-pass g l = vec_len l.passes
