use Rattle.std.proofs.Common.{ℕ, ◌+◌, ◌≡◌, ◌<◌, ◌⊎◌, inl, inr, arith, Contains}
use Rattle.std.proofs.lemmas.Bool.Decides.{nat_tests}
use Rattle.bully_base.specs.declared.TheConstants.{NODES_MAX}
use Rattle.bully_table.specs.Balance.{count_of, base_of, IsFair}
use Rattle.bully_table.proofs.BalanceSteps.{falling-nodes, below-first}
use Rattle.bully_table.proofs.balance.are_fair.Goals as goal
use Rattle.bully_table.proofs.balance.are_fair.Goals.{else-has-via-then-has+else-not-is_fair, else-has-via-else-has}

pub total_weight-total-requires : goal.total_weight-total-requires
total_weight-total-requires c = falling-nodes (NODES_MAX + 1) c.args.setup.now.nodes c.args.members.now c.highest.ensures.falling c.requires.nodes

pub loop-place-init : goal.loop-place-init
loop-place-init c = below-first _ (NODES_MAX + 1) c.args.members.now c.highest.ensures.falling

pub base_of-requires : goal.base_of-requires
base_of-requires c =
    let within = c.total_weight-total.ensures.each c.node_at-node.result (c.has.ensures.0 c.if-has.true) in
    record { node = omega (arith, c.node_at-node.ensures); total = within.1 }

pub returns-then-not-is_fair : goal.returns-then-not-is_fair
returns-then-not-is_fair c = (
  λ t. absurd (cc),
  λ fair.
      let own = fair c.node_at-node.result (c.has.ensures.0 c.if-has.true) in
      let counted = c.count_owners.ensures (c.loop-place.place + 1) (omega arith, omega arith) in
      let base = c.base_of.ensures.base c.args.members.now c.total_weight-total.ensures.total in
      absurd (grind (arith, nat_tests, own, counted, base, c.node_at-node.ensures)),
)

pub loop-place-preserved : goal.loop-place-preserved
loop-place-preserved c = λ m x low. by_case m x (grind arith)
  where
    by_case : (m : ℕ) → Contains c.args.members.now m → (m ≡ c.loop-place.place + 1) ⊎ (m < c.loop-place.place + 1) → IsFair (base_of c.args.setup.now c.args.members.now m) (count_of m c.args.owners.now)
    by_case m x (inr l) = c.loop-place.invariant m x l
    by_case m x (inl e) =
        let node : m ≡ c.node_at-node.result = omega (arith, e, c.node_at-node.ensures) in
        elim c.else-has.branch [
          | else-has-via-then-has+else-not-is_fair w ↦
              let counted = c.count_owners.ensures (c.loop-place.place + 1) (omega arith, omega arith) in
              let base = w.base_of.ensures.base c.args.members.now c.total_weight-total.ensures.total in
              rw node (grind (arith, nat_tests, counted, base, c.node_at-node.ensures, w.is_fair.ensures, w.if-not-is_fair.false), grind (arith, nat_tests, counted, base, c.node_at-node.ensures, w.is_fair.ensures, w.if-not-is_fair.false))
          | else-has-via-else-has w ↦ let yes = c.has.ensures.1 (rw node at x) in absurd (cc)
        ]
