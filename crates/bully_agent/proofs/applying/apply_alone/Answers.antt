-- Where nothing refuses the event, it leads on.
use Rattle.std.proofs.Common.{◌+◌, refl, sym, subst}
use Rattle.bully_calls.specs.Events.{node_of}
use Rattle.bully_world.specs.StateAfter.{node_after}
use Rattle.bully_agent.specs.Agent.{IsAgentOf}
use Rattle.bully_agent.specs.Part.{Always, FollowsAt}
use Rattle.bully_agent.proofs.AloneLemmas.{alone_agent, alone_can, alone_follows}
use Rattle.bully_agent.proofs.applying.apply_alone.Goals as goal

pub apply-requires : goal.apply-requires
apply-requires c =
    let can = alone_can c.args.setup.now c.args.event.now c.args.events c.args.node_state.now c.requires.own c.in-None.ensures.cause c.requires.is (c.in-None.ensures.small refl) in
    record { at = can.at; room = can.room; may = can.may }

pub returns-in-None-clause-is : goal.returns-in-None-clause-is
returns-in-None-clause-is c =
    let e = c.args.event.now in
    subst (IsAgentOf c.args.setup.now (node_of e) (c.args.events + 1)) (sym c.apply.ensures.after) (alone_agent c.args.setup.now e c.args.events c.args.node_state.now c.requires.own c.in-None.ensures.cause c.requires.is)

pub returns-in-None-clause-follows : goal.returns-in-None-clause-follows
returns-in-None-clause-follows c =
    let e = c.args.event.now in
    let setup = c.args.setup.now in
    let m = c.args.node_state.now in
    subst (λ n. FollowsAt Always setup (node_of e) m e c.apply.result n) (sym c.apply.ensures.after)
    (subst (λ a. FollowsAt Always setup (node_of e) m e a (node_after setup e m)) (sym c.apply.ensures.answer) (alone_follows setup e c.args.events m c.requires.own c.in-None.ensures.cause))
