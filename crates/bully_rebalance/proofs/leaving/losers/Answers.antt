use Rattle.std.proofs.Common.{rules, ◌≡◌, ◌↔◌, ◌+◌, ℕ, Contains, length, Option, List, arith, subst, sym, ap, ◌∙◌}
use Rattle.std.specs.Option.{option_copied}
use Rattle.bully_rebalance.proofs.LeaveLemmas.{LosesIn, loses_all, loses_more, loses_same}
use Rattle.bully_rebalance.proofs.leaving.losers.Goals as goal
use Rattle.bully_rebalance.proofs.leaving.losers.Goals.{then-not-is_left, else-not-is_left}

pub loop-partition-preserved : goal.loop-partition-preserved
loop-partition-preserved c =
    let before = c.args.before.now in
    let after = option_copied c.args.after in
    let p = c.loop-partition.partition in
    record {
      found = λ i. elim c.if-not-is_left.branch [
        | then-not-is_left w ↦ subst (λ (ls : List ℕ). Contains ls i ↔ LosesIn before after (p + 1) i) (sym w.losers-is)
            (loses_more before after c.loop-partition.losers _ p c.owner-owner.result c.owner-owner.ensures (search (rules, w.if-not-is_left, c.is_left.ensures)) c.loop-partition.invariant.found w.insert.ensures.members i)
        | else-not-is_left w ↦ subst (λ (ls : List ℕ). Contains ls i ↔ LosesIn before after (p + 1) i) (sym w.losers-is)
            (loses_same before after c.loop-partition.losers p c.owner-owner.result c.owner-owner.ensures (search (rules, w.if-not-is_left, c.is_left.ensures)) c.loop-partition.invariant.found i)
      ];
      end = c.loop-partition.invariant.end;
    }

pub returns : goal.returns
returns c = λ i.
    let at_end : c.loop-partition.partition ≡ length c.args.before.now = search (rules) in
    let found = subst (λ k. Contains c.loop-partition.losers i ↔ LosesIn c.args.before.now (option_copied c.args.after) k i) at_end (c.loop-partition.invariant.found i) in
    let all = loses_all c.args.before.now (option_copied c.args.after) i in
    (λ has. all.0 (found.0 has), λ loses. found.1 (all.1 loses))
