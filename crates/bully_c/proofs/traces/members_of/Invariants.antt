use Rattle.std.proofs.Common.{◌↔◌, ℕ, All, Contains, take}
use Rattle.bully_base.specs.Setup.{IsNode}
use Rattle.bully_c.proofs.traces.members_of.Given as goal

abbrev pub invariant-loop-number : goal.invariant-loop-number
invariant-loop-number l =
    ((j : ℕ) → Contains l.members j ↔ Contains (take l.number-index l.numbers) j) × All (IsNode l.setup) l.members × All (IsNode l.setup) (take l.number-index l.numbers)
