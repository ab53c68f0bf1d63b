use Rattle.std.proofs.Common.{ℕ, List, ◌+◌, ◌≡◌, ◌++◌, ◌∷◌, [], length, arith, sym, refl, ◌∙◌, ap}
use Rattle.std.proofs.lemmas.Grind.{common_steps}
use Rattle.bully_base.specs.declared.TheConstants.{NODES_MAX}
use Rattle.bully_table.specs.Planning.{owner_at, quota, stays, planned_owner}
use Rattle.bully_base.proofs.NodeSetLemmas.{IsFallingBelow-more}
use Rattle.bully_table.proofs.PlannedLemmas.{plannable-from, are-quotas, planned-covers, planned-more, planned-stays, leaving-none, told-stays, told-leaves}
use Rattle.bully_table.proofs.TakerLemmas.{told-from, next-is-some, next-is-planned, taking-stays}
use Rattle.bully_table.proofs.planning.planned_owners.Goals as goal
use Rattle.bully_table.proofs.planning.planned_owners.Goals.{in-Some, in-None}

pub loop-place-init : goal.loop-place-init
loop-place-init c = record {
  planned = grind (arith, common_steps, c.in_ok-owners.ensures.items);
  taking = rw (← (leaving-none (quota c.args.setup.now c.args.before.now c.args.members.now) c.args.before.now c.args.members.now)) refl;
  room = omega (arith, c.in_ok-owners.ensures.capacity);
  left = λ m within. omega (arith, c.write_quotas.ensures c.args.before.now c.count_owners.ensures m within);
}

pub unwrap-owner-requires : goal.unwrap-owner-requires
unwrap-owner-requires c =
    let quotas = quota c.args.setup.now c.args.before.now c.args.members.now in
    let wide = IsFallingBelow-more (c.args.setup.now.nodes + 1) (NODES_MAX + 1) c.args.members.now (omega (arith, c.partitions.ensures.within.nodes)) c.requires.falling in
    let whole = are-quotas c.args.setup.now (NODES_MAX + 1) c.args.before.now c.args.members.now (plannable-from c.args.setup.now c.args.before.now c.args.members.now wide c.requires.weighs c.requires.covers) in
    let lists = told-from c.args.setup.now c.args.before.now c.args.members.now c.write_quotas.new.quotas c.count_owners.new.counts (c.write_quotas.ensures c.args.before.now c.count_owners.ensures) c.count_owners.ensures in
    let leaves = told-leaves (stays quotas c.args.before.now c.args.members.now c.loop-place.place) (owner_at c.args.before.now c.loop-place.place) (sym c.in-None.is ∙ c.staying_owner.ensures.owner quotas c.args.members.now wide lists.outside c.loop-place.invariant.left) in
    next-is-some quotas c.args.setup.now.partitions c.args.before.now c.args.members.now c.write_quotas.new.quotas c.count_owners.new.counts c.of-takers.result c.loop-place.takers c.next.new.self c.loop-place.place c.next.result whole lists c.of-takers.ensures (omega arith) leaves c.loop-place.invariant.taking c.next.ensures

pub push_reserved-requires : goal.push_reserved-requires
push_reserved-requires c =
    let places = ap (λ (xs : List ℕ). length xs) c.loop-place.invariant.planned ∙ planned-covers (quota c.args.setup.now c.args.before.now c.args.members.now) c.loop-place.place c.args.before.now c.args.members.now in
    omega (arith, c.loop-place.invariant.room, c.loop-place.owners.ok.0, places)

pub loop-place-preserved : goal.loop-place-preserved
loop-place-preserved c =
    let quotas = quota c.args.setup.now c.args.before.now c.args.members.now in
    let wide = IsFallingBelow-more (c.args.setup.now.nodes + 1) (NODES_MAX + 1) c.args.members.now (omega (arith, c.partitions.ensures.within.nodes)) c.requires.falling in
    let lists = told-from c.args.setup.now c.args.before.now c.args.members.now c.write_quotas.new.quotas c.count_owners.new.counts (c.write_quotas.ensures c.args.before.now c.count_owners.ensures) c.count_owners.ensures in
    let pushed : c.push_reserved.new.self.items ≡ c.loop-place.owners.items ++ c.match-staying_owner.owner ∷ [] = grind (arith, common_steps, c.push_reserved.ensures.items) in
    let answered = c.staying_owner.ensures.owner quotas c.args.members.now wide lists.outside c.loop-place.invariant.left in
    elim c.match-staying_owner.branch [
      | in-Some w ↦
          let told = told-stays (stays quotas c.args.before.now c.args.members.now c.loop-place.place) w.in-Some.owner (owner_at c.args.before.now c.loop-place.place) (sym w.in-Some.is ∙ answered) in
          record {
            planned = planned-more (planned_owner quotas c.args.before.now c.args.members.now) c.loop-place.place c.match-staying_owner.owner c.loop-place.owners.items c.push_reserved.new.self.items c.loop-place.invariant.planned (w.owner-is ∙ (told.1 ∙ sym (planned-stays quotas c.args.before.now c.args.members.now c.loop-place.place told.0))) pushed;
            taking = w.takers-is ∙ taking-stays quotas c.args.before.now c.args.members.now c.of-takers.result c.loop-place.takers c.loop-place.place told.0 c.loop-place.invariant.taking;
            room = omega (arith, c.push_reserved.ensures.capacity);
            left = c.staying_owner.ensures.left quotas c.loop-place.invariant.left;
          }
      | in-None w ↦
          let whole = are-quotas c.args.setup.now (NODES_MAX + 1) c.args.before.now c.args.members.now (plannable-from c.args.setup.now c.args.before.now c.args.members.now wide c.requires.weighs c.requires.covers) in
          let leaves = told-leaves (stays quotas c.args.before.now c.args.members.now c.loop-place.place) (owner_at c.args.before.now c.loop-place.place) (sym w.in-None.is ∙ answered) in
          let taken = next-is-planned quotas c.args.setup.now.partitions c.args.before.now c.args.members.now c.write_quotas.new.quotas c.count_owners.new.counts c.of-takers.result c.loop-place.takers w.next.new.self c.loop-place.place w.unwrap-owner.result w.next.result whole lists c.of-takers.ensures (omega arith) leaves c.loop-place.invariant.taking w.next.ensures w.unwrap-owner.ensures in
          record {
            planned = planned-more (planned_owner quotas c.args.before.now c.args.members.now) c.loop-place.place c.match-staying_owner.owner c.loop-place.owners.items c.push_reserved.new.self.items c.loop-place.invariant.planned (w.owner-is ∙ taken.0) pushed;
            taking = w.takers-is ∙ taken.1;
            room = omega (arith, c.push_reserved.ensures.capacity);
            left = c.staying_owner.ensures.left quotas c.loop-place.invariant.left;
          }
    ]
