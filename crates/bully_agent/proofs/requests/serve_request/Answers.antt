-- The request suits the node, and what the call makes of it is kept.
use Rattle.std.proofs.Common.{◌≡◌, ◌+◌, arith, sym, ◌∙◌, ap, subst}
use Rattle.bully_calls.specs.Slot.{CarriesFor}
use Rattle.bully_calls.specs.declared.event.Event.{Event}
use Rattle.bully_world.specs.StateAfter.{heard_state}
use Rattle.bully_agent.specs.Agent.{IsAgentOf}
use Rattle.bully_agent.specs.Calls.{IsRequested}
use Rattle.bully_agent.specs.Part.{FollowsAt}
use Rattle.bully_agent.proofs.ServeLemmas.{serve_agent, serve_carries, serve_follows}
use Rattle.bully_agent.proofs.requests.serve_request.Goals as goal

pub hear-requires : goal.hear-requires
hear-requires c =
    let r = c.args.request.now in
    let m = c.args.node_state.now in
    record {
      up = c.requires.can.up;
      room = omega (arith, c.requires.is.kept.generation, c.requires.small);
      carries = subst (λ q. CarriesFor r.call q m.vector.room) (sym c.table_of.ensures) (serve_carries c.args.setup.now r.call r.table m.vector.room c.requires.is.kept.vector_room c.requires.can.suits.table);
    }

pub returns-clause-after : goal.returns-clause-after
returns-clause-after c = c.hear.ensures.after ∙ ap (λ q. heard_state c.args.request.now.caller c.args.request.now.call q c.args.node_state.now) c.table_of.ensures

pub returns-clause-is : goal.returns-clause-is
returns-clause-is c =
    let r = c.args.request.now in
    let m = c.args.node_state.now in
    let after : c.hear.new.self ≡ heard_state r.caller r.call r.table m = c.hear.ensures.after ∙ ap (λ q. heard_state r.caller r.call q m) c.table_of.ensures in
    subst (IsAgentOf c.args.setup.now c.args.node (c.args.events + 1)) (sym after) (serve_agent c.args.setup.now c.args.node c.args.events m r c.requires.is c.requires.can.up c.requires.can.caller c.requires.can.suits)

pub returns-clause-follows : goal.returns-clause-follows
returns-clause-follows c =
    let r = c.args.request.now in
    let m = c.args.node_state.now in
    let setup = c.args.setup.now in
    let after : c.hear.new.self ≡ heard_state r.caller r.call r.table m = c.hear.ensures.after ∙ ap (λ q. heard_state r.caller r.call q m) c.table_of.ensures in
    subst (λ n. FollowsAt (IsRequested c.args.node r) setup c.args.node m (Event.Run r.caller) c.hear.result n) (sym after)
    (subst (λ a. FollowsAt (IsRequested c.args.node r) setup c.args.node m (Event.Run r.caller) a (heard_state r.caller r.call r.table m)) (sym c.hear.ensures.answer) (serve_follows setup c.args.node c.args.events m r c.requires.is c.requires.can.up))
