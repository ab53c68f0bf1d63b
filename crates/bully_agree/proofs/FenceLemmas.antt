-- The laws of fencing, from the invariant.
use Rattle.std.proofs.Common.{◌≡◌, ◌≢◌, ◌≤◌, ◌++◌, ℕ, List, Option, Some, None, arith, refl, sym, ap, ◌∙◌, IsSome}
use Rattle.bully_base.specs.Setup.{Setup}
use Rattle.bully_base.specs.declared.node.Status.TheVariants.{Normal}
use Rattle.bully_calls.specs.declared.call.Answer.{Answer}
use Rattle.bully_calls.specs.declared.event.Event.{Event}
use Rattle.bully_steps.specs.declared.point.Point.TheVariants.{Planning}
use Rattle.bully_world.specs.Lawful.{IsLawful}
use Rattle.bully_world.specs.Step.{Step}
use Rattle.bully_world.specs.World.{World, vector, point}
use Rattle.bully_agree.specs.Fencing.{Planned, IsLastPlan, GoesBy, GoAlike}
use Rattle.bully_agree.proofs.Fitting.{summary_of}
use Rattle.bully_agree.proofs.Law.{origin_of, lawful_keeps}
use Rattle.bully_agree.proofs.NodeSummary.{Calls, GroupInvariant}
use Rattle.bully_agree.proofs.PlanLemmas.{last_of, last_is, is_last, tokens_rise}

-- where a node may plan, nobody is Normal
pub plans_alone_lem : (setup : Setup) (events : List Event) (answers : List Answer) (w w' : World) (i j : ℕ) (table : List ℕ) (a : Answer)
    → IsLawful setup events answers w → Step setup w (Event.Plan i table) w' a → (vector w j).status ≢ Normal
plans_alone_lem setup events answers w w' i j table a lawful step =
    let kept = lawful_keeps setup events answers w lawful in
    let calls : (summary_of setup w i).activity ≡ Calls = planning w i step.0 in
    kept.leaders.calls_none_normal i j calls
  where
    planning : (w : World) (i : ℕ) → point w i ≡ Planning → (summary_of setup w i).activity ≡ Calls
    planning w i p = grind (arith, p)

-- a Normal node goes by the last plan, whatever that is
goes_by : (setup : Setup) (w : World) (i : ℕ) (last : Option Planned) → GroupInvariant (origin_of last) (summary_of setup w) → (vector w i).status ≡ Normal
    → (p : Planned) × (last ≡ Some p) × GoesBy w i p
goes_by setup w i None kept normal =
    let some : IsSome (vector w i).task = kept.agrees.has_task i normal in
    let none : (vector w i).task ≡ None = kept.fenced.normal_table i normal in
    absurd (cc (rw none at some))
goes_by setup w i (Some p) kept normal = (p, refl, record { coordinator = kept.fenced.normal_planner i normal; task = kept.fenced.normal_table i normal })

pub last_plan_lem : (setup : Setup) (events : List Event) (answers : List Answer) (w : World) (i : ℕ) → IsLawful setup events answers w → (vector w i).status ≡ Normal
    → (p : Planned) × IsLastPlan events p × GoesBy w i p
last_plan_lem setup events answers w i lawful normal =
    let by = goes_by setup w i (last_of 0 None events) (lawful_keeps setup events answers w lawful) normal in
    (by.0, is_last events by.0 by.1, by.2)

-- by any last plan, since there is one
goes_by_last : (setup : Setup) (events : List Event) (answers : List Answer) (w : World) (i : ℕ) (p : Planned) → IsLawful setup events answers w → (vector w i).status ≡ Normal → IsLastPlan events p → GoesBy w i p
goes_by_last setup events answers w i p lawful normal last =
    let by = goes_by setup w i (last_of 0 None events) (lawful_keeps setup events answers w lawful) normal in
    let found = last_is events p last in
    let same : by.0 ≡ p = cc (by.1, found) in
    rw same at by.2

pub tokens_fence_lem : (setup : Setup) (events more : List Event) (answers others : List Answer) (w v : World) (i j : ℕ) (p q : Planned)
    → IsLawful setup events answers w → IsLawful setup (events ++ more) others v → (vector w i).status ≡ Normal → (vector v j).status ≡ Normal
    → IsLastPlan events p → IsLastPlan (events ++ more) q → (p.token ≤ q.token) × (p.token ≡ q.token → GoAlike w i v j)
tokens_fence_lem setup events more answers others w v i j p q lawful longer normal later last last_later =
    let rise = tokens_rise events more p q last last_later in
    let here = goes_by_last setup events answers w i p lawful normal last in
    let there = goes_by_last setup (events ++ more) others v j q longer later last_later in
    (rise.0, λ same. alike here there (rise.1 same))
  where
    alike : GoesBy w i p → GoesBy v j q → p ≡ q → GoAlike w i v j
    alike here there same = record {
      coordinator = here.coordinator ∙ ap (λ x. Some x.planner) same ∙ sym there.coordinator;
      task = here.task ∙ ap (λ x. Some x.table) same ∙ sym there.task;
    }
