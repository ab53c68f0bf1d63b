-- The call fails, and returns.
use Rattle.std.proofs.Common.{◌≡◌, ◌+◌, arith, sym, ◌∙◌, ap, subst}
use Rattle.bully_calls.specs.declared.call.Phase.{Phase}
use Rattle.bully_steps.specs.Point.{IsPointOf}
use Rattle.bully_calls.specs.declared.event.Event.{Event}
use Rattle.bully_world.specs.State.{StoredNode}
use Rattle.bully_world.specs.StateAfter.{node_after_return, phased_state, return_answer}
use Rattle.bully_agent.specs.Agent.{IsAgentOf}
use Rattle.bully_agent.specs.Calls.{returned_by, returned_answer}
use Rattle.bully_agent.specs.Part.{Always, FollowsAt}
use Rattle.bully_agent.proofs.ReturnLemmas.{failure_agent, failure_loses, failure_outcome, failure_returns, failure_unfailed}
use Rattle.bully_agent.proofs.returns.return_failure.Goals as goal

pub lose-requires : goal.lose-requires
lose-requires c = failure_unfailed c.args.node_state.now.slot c.requires.sent

pub take_back-requires : goal.take_back-requires
take_back-requires c = record {
  at = subst (λ (m : StoredNode). IsPointOf c.args.setup.now c.args.node m.point) (sym c.lose.ensures) c.requires.is.fits.is_point;
  came = rw c.lose.ensures (failure_outcome c.args.setup.now c.args.node c.args.node_state.now c.requires.sent);
}

pub returns-clause-after : goal.returns-clause-after
returns-clause-after c = c.take_back.ensures.after ∙ ap (λ (m : StoredNode). node_after_return c.args.setup.now c.args.node m m.slot.content) c.lose.ensures

pub returns-clause-answer : goal.returns-clause-answer
returns-clause-answer c = c.take_back.ensures.answer ∙ ap (λ (m : StoredNode). return_answer m.generation m.slot.content) c.lose.ensures

pub returns-clause-is : goal.returns-clause-is
returns-clause-is c =
    let after : c.take_back.new.self ≡ returned_by c.args.setup.now c.args.node Phase.Failed c.args.node_state.now =
    c.take_back.ensures.after ∙ ap (λ (m : StoredNode). node_after_return c.args.setup.now c.args.node m m.slot.content) c.lose.ensures in
    subst (IsAgentOf c.args.setup.now c.args.node (c.args.events + 2)) (sym after) (failure_agent c.args.setup.now c.args.node c.args.events c.args.node_state.now c.requires.room c.requires.is c.requires.sent)

pub returns-clause-loses : goal.returns-clause-loses
returns-clause-loses c = failure_loses c.args.setup.now c.args.node c.args.events c.args.node_state.now (omega (arith, c.requires.room)) c.requires.sent

pub returns-clause-follows : goal.returns-clause-follows
returns-clause-follows c =
    let i = c.args.node in
    let m = c.args.node_state.now in
    let setup = c.args.setup.now in
    let after : c.take_back.new.self ≡ returned_by setup i Phase.Failed m = c.take_back.ensures.after ∙ ap (λ (m : StoredNode). node_after_return setup i m m.slot.content) c.lose.ensures in
    let answer : c.take_back.result ≡ returned_answer i Phase.Failed m = c.take_back.ensures.answer ∙ ap (λ (m : StoredNode). return_answer m.generation m.slot.content) c.lose.ensures in
    subst (λ n. FollowsAt Always setup i (phased_state Phase.Failed m) (Event.Return i) c.take_back.result n) (sym after)
    (subst (λ a. FollowsAt Always setup i (phased_state Phase.Failed m) (Event.Return i) a (returned_by setup i Phase.Failed m)) (sym answer) (failure_returns setup i (c.args.events + 1) m c.requires.room c.requires.sent))
