use Rattle.std.proofs.Common.{◌+◌, ◌≡◌, ℕ, List, arith, ◌∙◌, ap, length}
use Rattle.std.specs.Option.{option_copied}
use Rattle.bully_base.specs.declared.TheConstants.{NODES_MAX}
use Rattle.bully_table.specs.Planning.{owners_before, quota, planned_by, planned}
use Rattle.bully_table.proofs.BalanceSteps.{falling-nodes}
use Rattle.bully_table.proofs.PlannedLemmas.{weighs-from, plannable-from, planned-covers, planned-fewest, fewest-keeps, moves-within, covers-from, lengths-from}
use Rattle.bully_table.proofs.planning.plan_in.Goals as goal

pub planned_owners-requires-clause-falling : goal.planned_owners-requires-clause-falling
planned_owners-requires-clause-falling c = falling-nodes (NODES_MAX + 1) c.args.setup.now.nodes c.args.members.now c.highest.ensures.falling c.requires.nodes

pub planned_owners-requires-clause-weighs : goal.planned_owners-requires-clause-weighs
planned_owners-requires-clause-weighs c = weighs-from c.args.setup.now c.args.members.now c.highest.result c.partitions-partitions.ensures.within c.highest.ensures.falling c.requires.nodes c.highest.ensures.highest (grind (arith, c.is_none.ensures, c.if-is_none.false))

pub of-table-requires : goal.of-table-requires
of-table-requires c =
    let covers = ap (λ (xs : List ℕ). length xs) c.in_ok-owners.ensures ∙ planned-covers (quota c.args.setup.now c.owners_before.result.now c.args.members.now) c.args.setup.now.partitions c.owners_before.result.now c.args.members.now in
    omega (arith, covers, c.partitions-partitions.ensures.within)

pub moves_from-moves-requires : goal.moves_from-moves-requires
moves_from-moves-requires c =
    let covers = ap (λ (xs : List ℕ). length xs) (c.of-table.ensures ∙ c.in_ok-owners.ensures) ∙ planned-covers (quota c.args.setup.now c.owners_before.result.now c.args.members.now) c.args.setup.now.partitions c.owners_before.result.now c.args.members.now in
    lengths-from (option_copied c.args.old) c.args.setup.now.partitions (length c.of-table.result) c.requires.old covers

pub overflow_sub-result : goal.overflow_sub-result
overflow_sub-result c =
    let covers = ap (λ (xs : List ℕ). length xs) (c.of-table.ensures ∙ c.in_ok-owners.ensures) ∙ planned-covers (quota c.args.setup.now c.owners_before.result.now c.args.members.now) c.args.setup.now.partitions c.owners_before.result.now c.args.members.now in
    omega (arith, moves-within c.args.setup.now (option_copied c.args.old) c.of-table.result covers)

pub returns-clause-fewest : goal.returns-clause-fewest
returns-clause-fewest c =
    let heavy = weighs-from c.args.setup.now c.args.members.now c.highest.result c.partitions-partitions.ensures.within c.highest.ensures.falling c.requires.nodes c.highest.ensures.highest (grind (arith, c.is_none.ensures, c.if-is_none.false)) in
    let plannable = plannable-from c.args.setup.now (owners_before (option_copied c.args.old)) c.args.members.now c.highest.ensures.falling heavy (covers-from c.args.setup.now (option_copied c.args.old) c.requires.old) in
    let is : c.of-table.result ≡ planned c.args.setup.now (option_copied c.args.old) c.args.members.now = c.of-table.ensures ∙ (c.in_ok-owners.ensures ∙ ap (λ (before : List ℕ). planned_by (quota c.args.setup.now before c.args.members.now) c.args.setup.now.partitions before c.args.members.now) c.owners_before.ensures) in
    rw is (planned-fewest c.args.setup.now (NODES_MAX + 1) (option_copied c.args.old) c.args.members.now plannable)

pub returns-clause-bound : goal.returns-clause-bound
returns-clause-bound c =
    rw c.partitions-partitions.ensures.partitions (fewest-keeps c.args.setup.now (option_copied c.args.old) c.args.members.now c.of-table.result c.moves_from-moves.result (returns-clause-fewest c) c.moves_from-moves.ensures)

pub returns-clause-certificate : goal.returns-clause-certificate
returns-clause-certificate c =
    let covers = ap (λ (xs : List ℕ). length xs) (c.of-table.ensures ∙ c.in_ok-owners.ensures) ∙ planned-covers (quota c.args.setup.now c.owners_before.result.now c.args.members.now) c.args.setup.now.partitions c.owners_before.result.now c.args.members.now in
    omega (arith, moves-within c.args.setup.now (option_copied c.args.old) c.of-table.result covers)
