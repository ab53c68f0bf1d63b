-- The call comes to its phase, and returns.
use Rattle.std.proofs.Common.{◌≡◌, ◌+◌, sym, ◌∙◌, ap, subst}
use Rattle.bully_calls.specs.declared.call.Phase.{Phase}
use Rattle.bully_steps.specs.Point.{IsPointOf}
use Rattle.bully_calls.specs.declared.event.Event.{Event}
use Rattle.bully_world.specs.State.{StoredNode}
use Rattle.bully_world.specs.StateAfter.{node_after_return, return_answer}
use Rattle.bully_agent.specs.Agent.{IsAgentOf}
use Rattle.bully_agent.specs.Calls.{HasRun, returned_by, returned_answer}
use Rattle.bully_agent.specs.Part.{FollowsAt}
use Rattle.bully_agent.proofs.ReturnLemmas.{reply_agent, reply_answers, reply_follows, reply_outcome}
use Rattle.bully_agent.proofs.returns.return_reply.Goals as goal

pub ran-requires : goal.ran-requires
ran-requires c = record { sent = c.requires.can.sent; replied = reply_answers c.args.node_state.now.slot c.args.answer c.requires.can }

pub take_back-requires : goal.take_back-requires
take_back-requires c = record {
  at = subst (λ (m : StoredNode). IsPointOf c.args.setup.now c.args.node m.point) (sym c.ran.ensures) c.requires.is.fits.is_point;
  came = rw c.ran.ensures (reply_outcome c.args.setup.now c.args.node c.args.node_state.now c.args.answer c.requires.can);
}

pub returns-clause-after : goal.returns-clause-after
returns-clause-after c = c.take_back.ensures.after ∙ ap (λ (m : StoredNode). node_after_return c.args.setup.now c.args.node m m.slot.content) c.ran.ensures

pub returns-clause-answer : goal.returns-clause-answer
returns-clause-answer c = c.take_back.ensures.answer ∙ ap (λ (m : StoredNode). return_answer m.generation m.slot.content) c.ran.ensures

pub returns-clause-is : goal.returns-clause-is
returns-clause-is c =
    let after : c.take_back.new.self ≡ returned_by c.args.setup.now c.args.node (Phase.Ran c.args.answer) c.args.node_state.now =
    c.take_back.ensures.after ∙ ap (λ (m : StoredNode). node_after_return c.args.setup.now c.args.node m m.slot.content) c.ran.ensures in
    subst (IsAgentOf c.args.setup.now c.args.node (c.args.events + 1)) (sym after) (reply_agent c.args.setup.now c.args.node c.args.events c.args.node_state.now c.args.answer c.requires.room c.requires.is c.requires.can)

pub returns-clause-follows : goal.returns-clause-follows
returns-clause-follows c =
    let i = c.args.node in
    let m = c.args.node_state.now in
    let setup = c.args.setup.now in
    let f = Phase.Ran c.args.answer in
    let after : c.take_back.new.self ≡ returned_by setup i f m = c.take_back.ensures.after ∙ ap (λ (m : StoredNode). node_after_return setup i m m.slot.content) c.ran.ensures in
    let answer : c.take_back.result ≡ returned_answer i f m = c.take_back.ensures.answer ∙ ap (λ (m : StoredNode). return_answer m.generation m.slot.content) c.ran.ensures in
    subst (λ n. FollowsAt (HasRun i c.args.answer) setup i m (Event.Return i) c.take_back.result n) (sym after)
    (subst (λ a. FollowsAt (HasRun i c.args.answer) setup i m (Event.Return i) a (returned_by setup i f m)) (sym answer) (reply_follows setup i c.args.events m c.args.answer c.requires.room c.requires.can))
