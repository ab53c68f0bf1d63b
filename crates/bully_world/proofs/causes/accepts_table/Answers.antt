-- The set that the table is tested over is the node with its up set, all of them nodes of the setup.
use Rattle.std.proofs.Common.{◌≡◌, ◌≤◌, All, arith, sym, subst}
use Rattle.std.proofs.lemmas.Bool.Decides.{nat_tests}
use Rattle.bully_base.specs.NodeSet.{with_node}
use Rattle.bully_steps.proofs.PlanLemmas.{node_and_up}
use Rattle.bully_table.specs.Balance.{is_balanced}
use Rattle.bully_world.proofs.CauseAt.{balanced-test}
use Rattle.bully_world.proofs.causes.accepts_table.Goals as goal

pub is_balanced_in-requires-clause-length : goal.is_balanced_in-requires-clause-length
is_balanced_in-requires-clause-length c = grind (arith, nat_tests, c.if-is_whole.true, c.from.ensures, c.partitions.ensures.partitions, c.len.ensures)

pub is_balanced_in-requires-clause-nodes : goal.is_balanced_in-requires-clause-nodes
is_balanced_in-requires-clause-nodes c =
    let planned : c.insert.new.self ≡ with_node c.args.node c.args.node_state.now.vector.vector.up = grind (arith, c.insert.ensures.after, c.up.ensures, c.vector.ensures) in
    subst (λ ms. All (λ m. m ≤ c.args.setup.now.nodes) ms) (sym planned) (node_and_up c.args.setup.now.nodes c.args.node c.args.node_state.now.vector.vector.up c.requires.node c.requires.up)

pub returns-then-is_whole : goal.returns-then-is_whole
returns-then-is_whole c =
    let planned : c.insert.new.self ≡ with_node c.args.node c.args.node_state.now.vector.vector.up = grind (arith, c.insert.ensures.after, c.up.ensures, c.vector.ensures) in
    let says = c.is_balanced_in.ensures in
    let test : c.is_balanced_in.result ≡ is_balanced c.args.setup.now c.args.table.now c.insert.new.self = balanced-test c.args.setup.now c.args.table.now c.insert.new.self c.is_balanced_in.result says.0 says.1 in
    grind (arith, nat_tests, test, planned, c.if-is_whole.true, c.from.ensures, c.partitions.ensures.partitions, c.len.ensures)
