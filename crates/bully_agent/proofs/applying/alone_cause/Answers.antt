-- What is tested of the node state is the refusal in every world of which it may be a part.
use Rattle.std.proofs.Common.{◌<◌, arith, sym, ◌∙◌, ap, subst, if◌then◌else◌, Some}
use Rattle.bully_base.specs.Setup.{IsNode}
use Rattle.bully_calls.specs.declared.event.Refused.{Refused}
use Rattle.bully_calls.specs.Events.{node_of}
use Rattle.bully_world.specs.Cause.{cause}
use Rattle.bully_agent.specs.Part.{IsPart}
use Rattle.bully_agent.proofs.AloneLemmas.{alone_told}
use Rattle.bully_agent.proofs.RefusalLemmas.{full_cause, recover_cause_at, down_cause_at, later_cause_at}
use Rattle.bully_agent.proofs.applying.alone_cause.Goals as goal

pub own_cause-requires-clause-own : goal.own_cause-requires-clause-own
own_cause-requires-clause-own c = alone_told c.args.event.now c.requires.own

pub returns-then-is_full_for-clause-cause : goal.returns-then-is_full_for-clause-cause
returns-then-is_full_for-clause-cause c = λ w part met. full_cause c.args.setup.now w c.args.events c.args.event.now (omega (arith, c.is_full_for.ensures.full c.if-is_full_for.true))

pub returns-in-Recover-clause-cause : goal.returns-in-Recover-clause-cause
returns-in-Recover-clause-cause c = λ w part met.
    let i = c.in-Recover.field-0 in
    let m = c.args.node_state.now in
    let setup = c.args.setup.now in
    let room : c.args.events < setup.events_max = omega (arith, c.is_full_for.ensures.room c.if-is_full_for.false) in
    let node : IsNode setup i = subst (λ e. IsNode setup (node_of e)) c.in-Recover.is c.requires.is.is_node in
    let here : IsPart setup i m w = subst (λ e. IsPart setup (node_of e) m w) c.in-Recover.is part in
    ap (cause setup w c.args.events) c.in-Recover.is
    ∙ (recover_cause_at setup i c.args.events m w c.is_down-is_down.result node room here c.is_down-is_down.ensures.0 c.is_down-is_down.ensures.1 ∙ sym c.recover_cause.ensures)

pub returns-in_default-clause-cause : goal.returns-in_default-clause-cause
returns-in_default-clause-cause c = λ w part met.
    let room : c.args.events < c.args.setup.now.events_max = omega (arith, c.is_full_for.ensures.room c.if-is_full_for.false) in
    down_cause_at c.args.setup.now c.args.event.now c.args.events c.args.node_state.now c.requires.is.is_node room w c.is_down-is_down.result c.in_default.not-Recover part c.is_down-is_down.ensures.0 c.is_down-is_down.ensures.1 c.if-is_down.true

pub returns-in_default-2-clause-cause : goal.returns-in_default-2-clause-cause
returns-in_default-2-clause-cause c = λ w part met.
    let room : c.args.events < c.args.setup.now.events_max = omega (arith, c.is_full_for.ensures.room c.if-is_full_for.false) in
    later_cause_at c.args.setup.now c.args.event.now c.args.events c.args.node_state.now c.requires.is.is_node room w c.is_down-is_down.result c.own_cause.result c.requires.own c.in_default.not-Recover part c.is_down-is_down.ensures.0 c.is_down-is_down.ensures.1 c.own_cause.ensures
    ∙ ap (λ t. if t then Some Refused.IsDown else c.own_cause.result) c.if-is_down.false
