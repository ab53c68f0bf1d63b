-- The invariant holds of each world that a lawful list leads to, and implies agreement.
use Rattle.std.proofs.Common.{◌≡◌, ◌<◌, ◌+◌, ℕ, List, [], ◌∷◌, Option, Some, None, true, arith, refl, ap, ◌↔◌}
use Rattle.bully_base.specs.Setup.{Setup}
use Rattle.bully_calls.specs.declared.call.Answer.{Answer}
use Rattle.bully_world.proofs.NodeInvariantLemmas.{first_node_state, first_fits, step_fits, lawful_fits}
use Rattle.bully_calls.specs.declared.event.Event.{Event}
use Rattle.bully_world.specs.Cause.{cause}
use Rattle.bully_world.specs.Lawful.{LeadTo, IsLawful}
use Rattle.bully_world.specs.NodeInvariant.{WorldInvariant, TakesPart}
use Rattle.bully_world.specs.Step.{Step}
use Rattle.bully_world.specs.World.{World, vector, empty_node_state, first_world}
use Rattle.bully_agree.specs.Agreement.{Agreement}
use Rattle.bully_agree.specs.Fencing.{Planned, plan_then}
use Rattle.bully_world.proofs.CauseLemmas.{no_cause_if_step, step_if_no_cause}
use Rattle.bully_agree.proofs.Checking.{check_keeps, timeout_keeps}
use Rattle.bully_agree.proofs.Crashing.{crash_keeps}
use Rattle.bully_agree.proofs.Dropping.{drop_keeps}
use Rattle.bully_agree.proofs.Fitting.{summary_at, summary_of}
use Rattle.bully_agree.proofs.Losing.{lose_keeps}
use Rattle.bully_agree.proofs.Moving.{move_keeps}
use Rattle.bully_agree.proofs.PlanLemmas.{last_of}
use Rattle.bully_agree.proofs.Planning.{plan_keeps}
use Rattle.bully_agree.proofs.Recovering.{recover_keeps}
use Rattle.bully_agree.proofs.Returning.{return_keeps}
use Rattle.bully_agree.proofs.Running.{run_keeps}
use Rattle.bully_agree.proofs.Starting.{start_keeps}
use Rattle.bully_agree.proofs.NodeSummary.{NodeSummary, takes_part, Origin, GroupInvariant}

-- what is carried along of the last plan
abbrev pub origin_of : Option Planned → Origin
origin_of None = record { planner = None; table = None }
origin_of (Some p) = record { planner = Some p.planner; table = Some p.table }

-- where every node rests and is Down, there is nothing to keep
all_down : (setup : Setup) (f : ℕ → NodeSummary) → ((i : ℕ) → f i ≡ summary_at setup i empty_node_state) → GroupInvariant (origin_of None) f
all_down setup f none = record {
  elections = record {
    asked_unpassed = λ i k l a. grind (arith, none i);
    asked_apart = λ i k l a. grind (arith, none i);
    passed_apart = λ m k h l p. grind (arith, none m);
    halted_unasked = λ i k m p l e h t. grind (arith, none k);
  };
  announcements = record {
    unasked = λ i m k a l. grind (arith, none i);
    unpassed = λ m m' k a x l. grind (arith, none m);
    followed = λ m k j a t. grind (arith, none j);
    single = λ m k m' k' a b. grind (arith, none k, a.status);
  };
  leaders = record {
    followed = λ m j l t. grind (arith, none j);
    calls_none_normal = λ m j l t. grind (arith, none j);
    hands_task = λ m j l t. grind (arith, none j);
    hands_carries = λ m j l r. grind (arith, none m);
    readied_task = λ m k j r t. grind (arith, none j);
  };
  agrees = record {
    has_coordinator = λ j t. grind (arith, none j);
    same_coordinator = λ i j t u. grind (arith, none j);
    has_task = λ j t. grind (arith, none j);
    same_task = λ i j t u. grind (arith, none j);
  };
  fenced = record {
    normal_planner = λ j t. grind (arith, none j);
    normal_table = λ j t. grind (arith, none j);
    hands_planner = λ m h. grind (arith, none m);
    hands_table = λ m h. grind (arith, none m);
    readied_planner = λ m k r. grind (arith, none m, r.sent);
    readied_table = λ m k r. grind (arith, none m, r.sent);
  };
}

pub first_keeps : (setup : Setup) → GroupInvariant (origin_of None) (summary_of setup (first_world setup))
first_keeps setup = all_down setup (summary_of setup (first_world setup)) (λ i. ap (summary_at setup i) (first_node_state setup i))

-- so many events came before
pub step_keeps : (count : ℕ) (last : Option Planned) (setup : Setup) (w : World) (e : Event) (w' : World) (a : Answer) → Step setup w e w' a → WorldInvariant setup w → GroupInvariant (origin_of last) (summary_of setup w)
    → GroupInvariant (origin_of (plan_then count last e)) (summary_of setup w')
step_keeps count last setup w (Event.Recover i) w' a s all kept = rw s.2 (recover_keeps setup w i all kept s.0 s.1)
step_keeps count last setup w (Event.Crash i) w' a s all kept = rw s.1 (crash_keeps setup w i all kept s.0)
step_keeps count last setup w (Event.Check i) w' a s all kept = rw s.2 (check_keeps setup w i all kept s.0 s.1)
step_keeps count last setup w (Event.Timeout i) w' a s all kept = rw s.2 (timeout_keeps setup w i all kept s.0 s.1)
step_keeps count last setup w (Event.Start i) w' a s all kept = rw s.4 (start_keeps setup w i s.2 all kept s.0 s.1 s.3)
step_keeps count last setup w (Event.Run i) w' a s all kept = rw s.4 (run_keeps setup w i s.0 all kept s.1 s.2 s.3)
step_keeps count last setup w (Event.Lose i) w' a s all kept = rw s.4 (lose_keeps setup w i s.0 all kept s.1 s.2 s.3)
step_keeps count last setup w (Event.Return i) w' a s all kept = return_keeps setup w w' i s.0 s.1 a s.0.is_live refl all kept s.2 s.3 s.4
step_keeps count last setup w (Event.Drop i) w' a s all kept = rw s.3 (drop_keeps setup w i s.0 all kept s.1 s.2)
step_keeps count last setup w (Event.Move i) w' a s all kept = move_keeps setup w w' i all kept s.0 s.1 s.2 s.3
step_keeps count last setup w (Event.Plan i table) w' a s all kept = rw s.4 (plan_keeps setup w i table all kept s.0 s.1)

pub lead_keeps : (count : ℕ) (last : Option Planned) (setup : Setup) (w : World) (events : List Event) (answers : List Answer) (w' : World) → LeadTo setup w events answers w' → WorldInvariant setup w
    → GroupInvariant (origin_of last) (summary_of setup w) → GroupInvariant (origin_of (last_of count last events)) (summary_of setup w')
lead_keeps count last setup w [] [] w' l all kept = rw l kept
lead_keeps count last setup w (e ∷ events) (a ∷ answers) w' l all kept =
    lead_keeps (count + 1) (plan_then count last e) setup l.0 events answers w' l.2 (step_fits setup w e l.0 a l.1 all) (step_keeps count last setup w e l.0 a l.1 all kept)
lead_keeps count last setup w [] (a ∷ answers) w' l all kept = elim l [ ]
lead_keeps count last setup w (e ∷ events) [] w' l all kept = elim l [ ]

takes : (w : World) (i : ℕ) → TakesPart (vector w i) → takes_part (vector w i).status ≡ true
takes w i t = grind (arith, t)

-- the invariant holds of each world that a lawful list leads to
pub lawful_keeps : (setup : Setup) (events : List Event) (answers : List Answer) (w : World) → IsLawful setup events answers w → GroupInvariant (origin_of (last_of 0 None events)) (summary_of setup w)
lawful_keeps setup events answers w lawful = lead_keeps 0 None setup (first_world setup) events answers w lawful.leads (first_fits setup) (first_keeps setup)

pub agreement_lem : (setup : Setup) (events : List Event) (answers : List Answer) (w : World) → IsLawful setup events answers w → Agreement w
agreement_lem setup events answers w lawful =
    let kept = lawful_keeps setup events answers w lawful in
    record {
      has_coordinator = λ i t. kept.agrees.has_coordinator i (takes w i t);
      same_coordinator = λ i j t u. kept.agrees.same_coordinator i j (takes w i t) (takes w j u);
      has_task = kept.agrees.has_task;
      same_task = kept.agrees.same_task;
    }

pub causes_lem : (setup : Setup) (events : List Event) (answers : List Answer) (w : World) (count : ℕ) (e : Event) → IsLawful setup events answers w
    → ((cause setup w count e ≡ None) ↔ ((count < setup.events_max) × (w' : World) × (a : Answer) × Step setup w e w' a))
causes_lem setup events answers w count e lawful =
    let all = lawful_fits setup events answers w lawful in
    (λ none. step_if_no_cause setup w count e all none, λ s. no_cause_if_step setup w count e s.1 s.2 all s.0 s.3)
