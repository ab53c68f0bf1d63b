use Rattle.std.proofs.Common.{◌+◌, ◌≡◌, ◌≤◌, arith, rules, sym, ◌∙◌, Contains}
use Rattle.std.proofs.lemmas.Bool.Decides.{nat_tests}
use Rattle.bully_table.specs.Takers.{base_share}
use Rattle.bully_table.proofs.BaseSteps.{still-at, still-put, still-skip}
use Rattle.bully_table.proofs.PartLemmas.{base-within}
use Rattle.bully_table.proofs.QuotaSteps.{above-first, shared-none, shared-first, shared-later, shared-skip, shared-all}
use Rattle.bully_table.proofs.TakerLemmas.{base-inside}
use Rattle.bully_table.proofs.quotas.write_quotas.Goals as goal
use Rattle.bully_table.proofs.quotas.write_quotas.Goals.{then-has, then-counts-place, else-counts-place, else-has}

pub loop-place-init : goal.loop-place-init
loop-place-init c = record {
  still = record { places = search rules; still = λ m low high. c.write_bases-beyond.ensures.bases m (omega arith, omega arith) };
  below = λ before counts. shared-none c.args.setup.now (c.args.setup.now.nodes + 1) before c.args.members.now _ _ _ c.write_bases-beyond.result.above c.requires.falling c.write_bases-beyond.ensures.rest c.saturating_sub-later_rest.ensures
      (above-first c.args.setup.now before c.args.members.now c.args.counts.now (c.args.setup.now.nodes + 1) c.write_bases-beyond.result.above c.requires.falling (omega (arith, c.nodes.ensures.within.nodes)) counts c.write_bases-beyond.ensures.above);
}

pub overflow_add-quotas : goal.overflow_add-quotas
overflow_add-quotas c =
    let node : c.node_at.result ≡ c.loop-place.place + 1 = c.node_at.ensures in
    let here : Contains c.args.members.now (c.loop-place.place + 1) = rw (sym node) (c.has.ensures.0 c.if-has.true) in
    let base = still-at (base_share c.args.setup.now c.args.members.now) c.loop-place.place c.loop-place.quotas (omega arith) c.loop-place.invariant.still in
    let inside = base-inside c.args.setup.now c.args.members.now (c.loop-place.place + 1) here in
    let most = base-within c.args.setup.now (c.args.setup.now.nodes + 1) c.args.members.now (c.loop-place.place + 1) c.requires.falling here in
    let one : c.if-counts-place.more ≤ 1 = elim c.if-counts-place.branch [
      | then-counts-place w ↦ omega (arith, w.more-is, w.spend_one-more.ensures.spent)
      | else-counts-place w ↦ omega (arith, w.more-is, w.spend_one-more-else-counts-place.ensures.spent)
    ] in
    omega (arith, base, inside, most, one, c.nodes.ensures.within.partitions)

pub loop-place-preserved : goal.loop-place-preserved
loop-place-preserved c =
    let node : c.node_at.result ≡ c.loop-place.place + 1 = c.node_at.ensures in
    let was = c.loop-place.invariant in
    elim c.if-has.branch [
      | then-has w ↦
          let here : Contains c.args.members.now (c.loop-place.place + 1) = rw (sym node) (c.has.ensures.0 w.if-has.true) in
          let base = still-at (base_share c.args.setup.now c.args.members.now) c.loop-place.place c.loop-place.quotas (omega arith) was.still ∙ base-inside c.args.setup.now c.args.members.now (c.loop-place.place + 1) here in
          record {
            still = still-put (base_share c.args.setup.now c.args.members.now) c.loop-place.place _ c.loop-place.quotas c.if-has.quotas w.quotas-is was.still;
            below = λ before counts.
                let counted = counts (c.loop-place.place + 1) (omega arith, omega arith) in
                elim w.if-counts-place.branch [
                  | then-counts-place v ↦ shared-first c.args.setup.now (c.args.setup.now.nodes + 1) before c.args.members.now c.loop-place.quotas c.if-has.quotas c.loop-place.first_rest c.loop-place.later_rest c.loop-place.place c.if-has.first_rest c.if-has.later_rest v.spend_one-more.result
                      c.requires.falling (omega arith) was.still (was.below before counts) here (grind (arith, nat_tests, counted, base, v.if-counts-place.true)) v.spend_one-more.ensures.spent (grind (arith, v.spend_one-more.ensures.left)) (grind arith) (grind (arith, base, w.quotas-is, v.more-is))
                  | else-counts-place v ↦ shared-later c.args.setup.now (c.args.setup.now.nodes + 1) before c.args.members.now c.loop-place.quotas c.if-has.quotas c.loop-place.first_rest c.loop-place.later_rest c.loop-place.place c.if-has.later_rest c.if-has.first_rest v.spend_one-more-else-counts-place.result
                      c.requires.falling (omega arith) was.still (was.below before counts) here (grind (arith, nat_tests, counted, base, v.if-counts-place.false)) v.spend_one-more-else-counts-place.ensures.spent (grind (arith, v.spend_one-more-else-counts-place.ensures.left)) (grind arith) (grind (arith, base, w.quotas-is, v.more-is))
                ];
          }
      | else-has w ↦
          let out : ¬ Contains c.args.members.now (c.loop-place.place + 1) = λ x. (let yes = c.has.ensures.1 (rw node x) in absurd (cc)) in
          rw (w.first_rest-is, w.later_rest-is, w.quotas-is) record {
            still = still-skip (base_share c.args.setup.now c.args.members.now) c.loop-place.place c.loop-place.quotas was.still;
            below = λ before counts. shared-skip c.args.setup.now before c.args.members.now c.loop-place.quotas c.loop-place.first_rest c.loop-place.later_rest c.loop-place.place (omega arith) was.still (was.below before counts) out;
          }
    ]

pub returns : goal.returns
returns c = λ before counts m within. shared-all c.args.setup.now before c.args.members.now c.loop-place.quotas c.loop-place.first_rest c.loop-place.later_rest c.loop-place.place m c.requires.falling (omega arith) c.loop-place.invariant.still (c.loop-place.invariant.below before counts) within.0 (omega (arith, within.1))
