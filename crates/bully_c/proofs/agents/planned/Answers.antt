use Rattle.std.proofs.Common.{List, ℕ, inl, inr, refl, subst}
use Rattle.bully_base.specs.Setup.{Setup}
use Rattle.bully_rows.specs.ReadBack.{AreOwners}
use Rattle.bully_calls.specs.declared.event.Event.{Event}
use Rattle.bully_c.specs.Arguments.{RefusesOwners}
use Rattle.bully_c.specs.HeldAgent.{Takes, TellsPlan}
use Rattle.bully_c.proofs.agents.planned.Goals as goal

pub returns-in-Ok : goal.returns-in-Ok
returns-in-Ok c =
    let owners = subst (λ (s : Setup). AreOwners s c.args.owners.now) c.setup.ensures.setup c.in-Ok.ensures.owners in
    let taken = subst (λ (t : List ℕ). Takes (λ i. Event.Plan i t) (TellsPlan t) c.args.held.now c.plan.result c.plan.new.self) c.in-Ok.ensures.ok c.plan.ensures in
    inl (owners, (c.plan.result, c.done.ensures, taken))

pub returns-in-Err : goal.returns-in-Err
returns-in-Err c = inr (subst (λ (s : Setup). RefusesOwners s c.args.owners.now c.in-Err.status) c.setup.ensures.setup c.in-Err.ensures.err, refl)
