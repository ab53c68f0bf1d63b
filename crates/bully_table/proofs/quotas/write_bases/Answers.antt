use Rattle.std.proofs.Common.{◌+◌, ◌≡◌, ◌-◌, arith, refl, sym, Contains}
use Rattle.std.proofs.lemmas.Bool.Decides.{nat_tests}
use Rattle.std.proofs.lemmas.List.{get_or-replicate}
use Rattle.bully_base.specs.declared.TheConstants.{NODES_MAX}
use Rattle.bully_table.specs.Balance.{base_of}
use Rattle.bully_table.proofs.BaseSteps.{still-put, still-skip, based-none, base-fits, based-next, based-skip, based-all, rest-is, above-is}
use Rattle.bully_table.proofs.quotas.write_bases.Goals as goal
use Rattle.bully_table.proofs.quotas.write_bases.Goals.{then-has, else-has}

pub loop-place-init : goal.loop-place-init
loop-place-init c = record {
  few = omega arith;
  still = record { places = rw c.requires.none refl; still = λ m low high. rw c.requires.none (get_or-replicate NODES_MAX (m - 1) 0 0 (omega arith)) };
  below = rw c.partitions.ensures.partitions (based-none c.args.setup.now (c.args.setup.now.nodes + 1) c.args.members.now c.args.counts.now c.args.bases.now c.requires.falling);
}

pub base_of-base-requires : goal.base_of-base-requires
base_of-base-requires c =
    let within = c.total_weight-total.ensures.each c.node_at-node.result (c.has.ensures.0 c.if-has.true) in
    record { node = omega (arith, c.node_at-node.ensures); total = within.1 }

pub overflow_sub-beyond : goal.overflow_sub-beyond
overflow_sub-beyond c =
    let node : c.node_at-node.result ≡ c.loop-place.place + 1 = c.node_at-node.ensures in
    let here : Contains c.args.members.now (c.loop-place.place + 1) = rw (sym node) (c.has.ensures.0 c.if-has.true) in
    let base : c.base_of-base.result ≡ base_of c.args.setup.now c.args.members.now (c.loop-place.place + 1) = rw (sym node) (c.base_of-base.ensures.base c.args.members.now c.total_weight-total.ensures.total) in
    base-fits c.args.setup.now (c.args.setup.now.nodes + 1) c.args.members.now c.args.counts.now c.loop-place.bases c.loop-place.beyond.rest c.loop-place.beyond.above c.loop-place.place c.base_of-base.result c.requires.falling c.requires.weighs c.loop-place.invariant.below here base

pub loop-place-preserved : goal.loop-place-preserved
loop-place-preserved c =
    let node : c.node_at-node.result ≡ c.loop-place.place + 1 = c.node_at-node.ensures in
    let was = c.loop-place.invariant in
    elim c.if-has.branch [
      | then-has w ↦
          let here : Contains c.args.members.now (c.loop-place.place + 1) = rw (sym node) (c.has.ensures.0 w.if-has.true) in
          let base : w.base_of-base.result ≡ base_of c.args.setup.now c.args.members.now (c.loop-place.place + 1) = rw (sym node) (w.base_of-base.ensures.base c.args.members.now c.total_weight-total.ensures.total) in
          record {
            few = grind (arith, was.few, w.beyond-is, w.from.ensures);
            still = still-put (λ m. 0) c.loop-place.place w.base_of-base.result c.loop-place.bases c.if-has.bases w.bases-is was.still;
            below = based-next c.args.setup.now (c.args.setup.now.nodes + 1) c.args.members.now c.args.counts.now c.loop-place.bases c.if-has.bases c.loop-place.beyond.rest c.loop-place.beyond.above c.loop-place.place w.base_of-base.result c.if-has.beyond.rest c.if-has.beyond.above
                c.requires.falling c.requires.weighs (omega arith) was.still was.below here base (grind (arith, w.beyond-is)) (grind (arith, nat_tests, base, w.beyond-is, w.from.ensures)) w.bases-is;
          }
      | else-has w ↦
          let out : ¬ Contains c.args.members.now (c.loop-place.place + 1) = λ x. (let yes = c.has.ensures.1 (rw node x) in absurd (cc)) in
          rw (w.beyond-is, w.bases-is) record {
            few = omega (arith, was.few);
            still = still-skip (λ m. 0) c.loop-place.place c.loop-place.bases was.still;
            below = based-skip c.args.setup.now c.args.members.now c.args.counts.now c.loop-place.bases c.loop-place.beyond.rest c.loop-place.beyond.above c.loop-place.place (omega arith) was.still was.below out;
          }
    ]

pub returns-clause-bases : goal.returns-clause-bases
returns-clause-bases c = λ m within. based-all c.args.setup.now c.args.members.now c.args.counts.now c.loop-place.bases c.loop-place.beyond.rest c.loop-place.beyond.above c.loop-place.place m c.requires.falling (omega arith) c.loop-place.invariant.still c.loop-place.invariant.below within.0 (omega (arith, within.1))

pub returns-clause-rest : goal.returns-clause-rest
returns-clause-rest c = rest-is c.args.setup.now c.args.members.now c.args.counts.now c.loop-place.bases c.loop-place.beyond.rest c.loop-place.beyond.above c.loop-place.place c.requires.falling (omega arith) c.loop-place.invariant.below

pub returns-clause-above : goal.returns-clause-above
returns-clause-above c = above-is c.args.setup.now c.args.members.now c.args.counts.now c.loop-place.bases c.loop-place.beyond.rest c.loop-place.beyond.above c.loop-place.place c.requires.falling (omega arith) c.loop-place.invariant.below
