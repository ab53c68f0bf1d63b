-- The event is one of the agent's node.
use Rattle.std.proofs.Common.{◌≡◌, refl, sym, ◌∙◌, ap, subst}
use Rattle.bully_calls.specs.Events.{node_of}
use Rattle.bully_agent.specs.Agent.{AgentState, IsAgentOf}
use Rattle.bully_agent.proofs.AgentLemmas.{taken_is}
use Rattle.bully_agent.proofs.agent.Agent.apply_event.Goals as goal

pub apply_alone-requires : goal.apply_alone-requires
apply_alone-requires c =
    let a = c.self.inside in
    let named : node_of c.args.event ≡ a.node = c.requires.named ∙ ap (λ (s : AgentState). s.node) (sym c.self.view_is) in
    record { own = c.requires.alone; is = subst (λ i. IsAgentOf a.setup i a.events a.node_state) (sym named) c.self.invariant }

pub returns-clause-taken : goal.returns-clause-taken
returns-clause-taken c =
    let a = c.self.inside in
    let named : node_of c.args.event ≡ a.node = c.requires.named ∙ ap (λ (s : AgentState). s.node) (sym c.self.view_is) in
    rw (← c.self.view_is)
    (taken_is a.setup a.node a.events a.number a.node_state c.apply_alone.new.node_state c.args.event c.number_after-self-inside.result (record { event = c.args.event; answer = c.in_ok-answer.answer }) c.in_ok-answer.ensures.room named refl c.in_ok-answer.ensures.after c.in_ok-answer.ensures.answer c.number_after-self-inside.ensures c.in_ok-answer.ensures.follows)
