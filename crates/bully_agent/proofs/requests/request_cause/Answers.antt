-- What is tested of the request is the refusal in every world where it is under way.
use Rattle.std.proofs.Common.{◌<◌, arith}
use Rattle.bully_agent.proofs.ServeLemmas.{serve_full, serve_far, serve_strange, serve_down}
use Rattle.bully_agent.proofs.requests.request_cause.Goals as goal

pub returns-then-is_full_for-clause-why : goal.returns-then-is_full_for-clause-why
returns-then-is_full_for-clause-why c = serve_full c.args.setup.now c.args.node c.args.events c.args.node_state.now c.args.request.now (omega (arith, c.is_full_for.ensures.full c.if-is_full_for.true))

pub returns-then-number-nodes-clause-why : goal.returns-then-number-nodes-clause-why
returns-then-number-nodes-clause-why c = serve_far c.args.setup.now c.args.node c.args.events c.args.node_state.now c.args.request.now (omega (arith, c.if-number-nodes.true, c.number.ensures.number, c.nodes.ensures.nodes))

pub returns-then-not-suits_node-clause-why : goal.returns-then-not-suits_node-clause-why
returns-then-not-suits_node-clause-why c = serve_strange c.args.setup.now c.args.node c.args.events c.args.node_state.now c.args.request.now (λ s. absurd (grind (arith, c.suits_node.ensures.1 s, c.if-not-suits_node.true)))

pub returns-then-is_down-clause-why : goal.returns-then-is_down-clause-why
returns-then-is_down-clause-why c =
    let room : c.args.events < c.args.setup.now.events_max = omega (arith, c.is_full_for.ensures.room c.if-is_full_for.false) in
    serve_down c.args.setup.now c.args.node c.args.events c.args.node_state.now c.args.request.now room (c.is_down.ensures.0 c.if-is_down.true)

pub returns-clause-can : goal.returns-clause-can
returns-clause-can c = record {
  room = omega (arith, c.is_full_for.ensures.room c.if-is_full_for.false);
  caller = (c.number.ensures.within.0, omega (arith, c.if-number-nodes.false, c.number.ensures.number, c.nodes.ensures.nodes));
  suits = c.suits_node.ensures.0 (grind (arith, c.if-not-suits_node.false));
  up = λ d. absurd (grind (arith, c.is_down.ensures.1 d, c.if-is_down.false));
}
