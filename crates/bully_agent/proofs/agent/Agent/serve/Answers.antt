-- The request ran at the agent's node, and its reply tells so.
use Rattle.std.proofs.Common.{refl, rules}
use Rattle.bully_agent.specs.Calls.{CanServe}
use Rattle.bully_agent.proofs.AgentLemmas.{agent, served_is}
use Rattle.bully_agent.proofs.PremiseLemmas.{is_reply_to, tells_run}
use Rattle.bully_agent.proofs.agent.Agent.serve.Goals as goal

pub returns-clause-told : goal.returns-clause-told
returns-clause-told c =
    let a = c.self.inside in
    let r = c.args.request.now in
    rw (← c.self.view_is)
    (tells_run (agent a.setup a.node a.events a.number a.node_state) r (record { caller = r.caller; number = r.number; answer = c.serve_request-answer.result }) refl c.serve_request-answer.ensures.answer)

pub returns-clause-due : goal.returns-clause-due
returns-clause-due c =
    let r = c.args.request.now in
    is_reply_to r (record { caller = r.caller; number = r.number; answer = c.serve_request-answer.result }) c.self.inside.node_state.vector.vector refl refl c.serve_request-answer.ensures.answer

pub returns-clause-served : goal.returns-clause-served
returns-clause-served c =
    let a = c.self.inside in
    let r = c.args.request.now in
    let ran = c.serve_request-answer in
    let can : CanServe a.setup a.node a.events a.node_state r = search rules in
    rw (← c.self.view_is)
    (served_is a.setup a.node a.events a.number a.node_state ran.new.node_state r ran.result can ran.ensures.answer ran.ensures.after ran.ensures.follows)
