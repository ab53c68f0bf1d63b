use Rattle.std.proofs.Common.{ap, subst, sym, ◌∙◌}
use Rattle.bully_member.proofs.KeepLemmas.{awaits_noted, keeps, sights_same}
use Rattle.bully_member.proofs.SureLemmas.{sure_noted}
use Rattle.bully_member.proofs.WaitLemmas.{waits}
use Rattle.bully_member.proofs.member.Member.next.Goals as goal
use Rattle.bully_member.specs.Due.{due}
use Rattle.bully_member.specs.Keeping.{Keeps}
use Rattle.bully_member.specs.Waiting.{WaitsFor}

pub returns-clause-sees : goal.returns-clause-sees
returns-clause-sees c = (c.sight-sight.result, c.sight-sight.ensures.sees)

pub returns-clause-keeps : goal.returns-clause-keeps
returns-clause-keeps c =
    let m = c.args.self.now in
    subst (Keeps m c.args.now) (sym c.due-step.ensures) (keeps m c.args.now c.sight-sight.result c.sight-sight.ensures.sees c.sight-sight.ensures.ahead)

pub returns-clause-waits : goal.returns-clause-waits
returns-clause-waits c = subst (WaitsFor c.args.self.now c.args.now) (sym c.due-step.ensures) (waits c.args.self.now c.args.now c.sight-sight.result c.sight-sight.ensures.sees)

pub returns-clause-awaits : goal.returns-clause-awaits
returns-clause-awaits c = awaits_noted c.args.self.now _ c.args.now _ c.sight-sight.result c.sight-sight.result.is_stable c.due-step.ensures c.note.ensures

pub returns-clause-stops : goal.returns-clause-stops
returns-clause-stops c = sure_noted c.args.self.now _ c.args.now _ c.sight-sight.result c.sight-sight.ensures.sees c.sight-sight.ensures.ahead c.due-step.ensures c.note.ensures

pub returns-clause-due : goal.returns-clause-due
returns-clause-due c = λ s sees. c.due-step.ensures ∙ ap (due c.args.self.now c.args.now) (sights_same c.args.self.now c.args.now c.sight-sight.result s c.sight-sight.ensures.sees sees)
