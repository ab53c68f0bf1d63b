-- The agent's call failed.
use Rattle.std.proofs.Common.{◌<◌, ◌+◌, refl, rules}
use Rattle.bully_calls.specs.declared.event.Event.{Event}
use Rattle.bully_agent.specs.Calls.{IsAwaited}
use Rattle.bully_agent.proofs.AgentLemmas.{agent, failed_is}
use Rattle.bully_agent.proofs.agent.Agent.failed.Goals as goal

pub returns-clause-failed : goal.returns-clause-failed
returns-clause-failed c =
    let a = c.self.inside in
    let ran = c.return_failure-answer in
    let room : a.events + 1 < a.setup.events_max = search rules in
    let awaited : IsAwaited (agent a.setup a.node a.events a.number a.node_state) c.args.number = search rules in
    rw (← c.self.view_is)
    (failed_is a.setup a.node a.events a.number a.node_state ran.new.node_state c.args.number (record { lost = Event.Lose a.node; returned = record { event = Event.Return a.node; answer = ran.result } }) room awaited refl refl ran.ensures.after ran.ensures.answer ran.ensures.loses ran.ensures.follows)
