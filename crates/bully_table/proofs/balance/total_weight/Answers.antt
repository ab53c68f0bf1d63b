use Rattle.std.proofs.Common.{◌≡◌, ◌+◌, arith, sym, Contains}
use Rattle.bully_base.specs.Setup.{weight_of}
use Rattle.bully_table.proofs.TotalLemmas.{total-above, total-below-member, total-below-other}
use Rattle.bully_table.proofs.PartLemmas.{weights-are, weight-some, weight-among}
use Rattle.bully_table.proofs.PlanSteps.{below-none}
use Rattle.bully_table.proofs.balance.total_weight.Goals as goal
use Rattle.bully_table.proofs.balance.total_weight.Goals.{then-has, else-has}

pub loop-place-init : goal.loop-place-init
loop-place-init c = record {
  few = omega arith;
  sum = omega (arith, below-none (weight_of c.args.setup.now) (c.args.setup.now.nodes + 1) c.args.members.now c.requires);
}

pub loop-place-preserved : goal.loop-place-preserved
loop-place-preserved c =
    let node : c.node_at-node.result ≡ c.loop-place.place + 1 = c.node_at-node.ensures in
    record {
      few = elim c.if-has.branch [ then-has w ↦ omega (arith, w.weight.ensures.within) | else-has w ↦ omega arith ];
      sum = elim c.if-has.branch [
        | then-has w ↦
            let here : Contains c.args.members.now (c.loop-place.place + 1) = rw (sym node) (c.has.ensures.0 w.if-has.true) in
            let weight : w.weight.result ≡ weight_of c.args.setup.now (c.loop-place.place + 1) = rw (sym node) w.weight.ensures.weight in
            omega (arith, weight, w.total-is, c.loop-place.invariant.sum, total-below-member (weight_of c.args.setup.now) (c.args.setup.now.nodes + 1) (c.loop-place.place + 1) c.args.members.now c.requires here)
        | else-has w ↦
            let out : ¬ Contains c.args.members.now (c.loop-place.place + 1) = λ x. (let yes = c.has.ensures.1 (rw node x) in absurd (cc)) in
            omega (arith, w.total-is, c.loop-place.invariant.sum, total-below-other (weight_of c.args.setup.now) (c.loop-place.place + 1) c.args.members.now out)
      ];
    }

pub returns-clause-total : goal.returns-clause-total
returns-clause-total c =
    omega (arith, c.loop-place.invariant.sum, weights-are c.args.setup.now c.args.members.now, total-above (weight_of c.args.setup.now) (c.args.setup.now.nodes + 1) (c.loop-place.place + 1) c.args.members.now c.requires (omega arith))

pub returns-clause-each : goal.returns-clause-each
returns-clause-each c = λ m x. (
  weight-some c.args.setup.now c.args.members.now m c.nodes.ensures.within c.requires x,
  rw (returns-clause-total c) (weight-among c.args.setup.now (c.args.setup.now.nodes + 1) c.args.members.now m c.requires x),
)
