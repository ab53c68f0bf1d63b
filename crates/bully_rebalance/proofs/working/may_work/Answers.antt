use Rattle.std.proofs.Common.{◌≢◌, ◌∙◌, ◌&&◌, [], Bool, None, Some, nat_lt, option_map, ap, refl, rules, sym}
use Rattle.bully_handlers.specs.Vector.{is_normal}
use Rattle.bully_replica.specs.Replica.{token_of}
use Rattle.bully_rebalance.proofs.OwnLemmas.{none_owned, owned_is, owned_none, owned_nothing, token_owned, token_owns}
use Rattle.bully_rebalance.proofs.working.may_work.Goals as goal
use Rattle.bully_rebalance.specs.Owning.{partitions_of, token_in}
use Rattle.bully_world.specs.State.{world_of}
use Rattle.bully_world.specs.World.{vector}

pub returns-in_default-clause-none : goal.returns-in_default-clause-none
returns-in_default-clause-none c =
    let r = c.args.replica.now in
    let may : Bool = is_normal (vector (world_of r.world) c.args.node).status && nat_lt c.args.offset (token_of r.last) in
    owned_nothing r c.args.node c.args.offset (owned_none may r.last c.args.node None refl c.in_default.ensures.table)

pub returns-then-owns_any-clause-owns : goal.returns-then-owns_any-clause-owns
returns-then-owns_any-clause-owns c =
    let r = c.args.replica.now in
    let may : Bool = is_normal (vector (world_of r.world) c.args.node).status && nat_lt c.args.offset (token_of r.last) in
    let some : partitions_of c.in-Some.table.now c.args.node ≢ [] = c.owns_any.ensures.0 c.if-owns_any.true in
    token_owns r c.args.node c.args.offset (Some c.token.result)
    (token_owned c.token.result (partitions_of c.in-Some.table.now c.args.node) some
    ∙ ap (option_map token_in) (sym (owned_is may r.last c.args.node c.token.result c.in-Some.table.now c.in-Some.ensures.table c.token.ensures.token)))

pub returns-else-owns_any-clause-none : goal.returns-else-owns_any-clause-none
returns-else-owns_any-clause-none c =
    let r = c.args.replica.now in
    let may : Bool = is_normal (vector (world_of r.world) c.args.node).status && nat_lt c.args.offset (token_of r.last) in
    owned_nothing r c.args.node c.args.offset
    (owned_is may r.last c.args.node (token_of r.last) c.in-Some.table.now c.in-Some.ensures.table refl
    ∙ none_owned (token_of r.last) (partitions_of c.in-Some.table.now c.args.node) (λ some. search (rules, c.owns_any.ensures.1 some, c.if-owns_any.false)))
