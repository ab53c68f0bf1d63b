use Rattle.std.proofs.Common.{◌≡◌, ◌+◌, ◌<◌, ℕ, length, arith, sym}
use Rattle.bully_member.proofs.ActivityLemmas.{ended_none, ended_one}
use Rattle.bully_member.proofs.activities.end_one.Goals as goal

pub returns-then-index-works : goal.returns-then-index-works
returns-then-index-works c = let at = c.from-index.ensures in ended_one c.args.partition 0 c.from-index.result c.args.works.now c.if-index-works.true (omega (arith, at))

pub returns-else-index-works : goal.returns-else-index-works
returns-else-index-works c = sym (ended_none c.args.partition 0 c.args.works.now apart)
  where
    apart : (d : ℕ) → d < length c.args.works.now → 0 + d ≡ c.args.partition → ⊥
    apart d low same = let at = c.from-index.ensures in let past = c.if-index-works.false in absurd (omega (arith, low, at, past, same))
