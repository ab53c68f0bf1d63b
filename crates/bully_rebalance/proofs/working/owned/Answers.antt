use Rattle.std.proofs.Common.{◌≡◌, ◌∙◌, ◌&&◌, Bool, None, nat_lt, ap, refl, rules, sym}
use Rattle.bully_handlers.specs.Vector.{is_normal}
use Rattle.bully_replica.specs.Replica.{token_of}
use Rattle.bully_rebalance.proofs.OwnLemmas.{answered_exactly, answered_nothing, answered_owns, answered_rises, owned_is, owned_none, owned_nothing}
use Rattle.bully_rebalance.proofs.working.owned.Goals as goal
use Rattle.bully_rebalance.specs.Owning.{owned_with, partitions_of}
use Rattle.bully_world.specs.State.{world_of}
use Rattle.bully_world.specs.World.{vector}

pub returns-in_default-clause-none : goal.returns-in_default-clause-none
returns-in_default-clause-none c =
    let r = c.args.replica.now in
    let may : Bool = is_normal (vector (world_of r.world) c.args.node).status && nat_lt c.args.offset (token_of r.last) in
    owned_nothing r c.args.node c.args.offset (owned_none may r.last c.args.node None refl c.in_default.ensures.table)

pub returns-clause-owned : goal.returns-clause-owned
returns-clause-owned c =
    let r = c.args.replica.now in
    let may : Bool = is_normal (vector (world_of r.world) c.args.node).status && nat_lt c.args.offset (token_of r.last) in
    let given : c.in_ok-partitions.partitions.items ≡ partitions_of c.in-Some.table.now c.args.node = search (rules, c.in_ok-partitions.ensures) in
    c.owned_with.ensures ∙ ap (owned_with c.token.result) given
    ∙ sym (owned_is may r.last c.args.node c.token.result c.in-Some.table.now c.in-Some.ensures.table c.token.ensures.token)

pub returns-clause-owns : goal.returns-clause-owns
returns-clause-owns c = answered_owns c.args.replica.now c.args.node c.args.offset c.owned_with.result (returns-clause-owned c)

pub returns-clause-exact : goal.returns-clause-exact
returns-clause-exact c = answered_exactly c.args.replica.now c.args.node c.args.offset c.owned_with.result (returns-clause-owned c)

pub returns-clause-rising : goal.returns-clause-rising
returns-clause-rising c = answered_rises c.args.replica.now c.args.node c.args.offset c.owned_with.result (returns-clause-owned c)

pub returns-clause-none : goal.returns-clause-none
returns-clause-none c = answered_nothing c.args.replica.now c.args.node c.args.offset c.owned_with.result (returns-clause-owned c)
