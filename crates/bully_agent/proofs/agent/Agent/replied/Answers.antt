-- The agent's call returned.
use Rattle.std.proofs.Common.{◌<◌, refl, rules}
use Rattle.bully_calls.specs.declared.event.Event.{Event}
use Rattle.bully_agent.specs.Calls.{IsDue}
use Rattle.bully_agent.proofs.AgentLemmas.{agent, returned_is}
use Rattle.bully_agent.proofs.agent.Agent.replied.Goals as goal

pub returns-clause-returned : goal.returns-clause-returned
returns-clause-returned c =
    let a = c.self.inside in
    let ran = c.return_reply-answer in
    let room : a.events < a.setup.events_max = search rules in
    let due : IsDue (agent a.setup a.node a.events a.number a.node_state) c.args.reply = search rules in
    rw (← c.self.view_is)
    (returned_is a.setup a.node a.events a.number a.node_state ran.new.node_state c.args.reply (record { event = Event.Return a.node; answer = ran.result }) room due refl ran.ensures.after ran.ensures.answer ran.ensures.follows)
