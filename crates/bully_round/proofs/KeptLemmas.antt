-- A turn leaves a member in its epoch.
use Rattle.std.proofs.Common.{◌≡◌, ℕ, Bool, true, List, [], ◌∷◌, Option, Some, None, refl, ap, ◌∙◌}
use Rattle.bully_base.specs.Setup.{Setup}
use Rattle.bully_member.specs.Due.{asked_for, noted}
use Rattle.bully_member.specs.Member.{MemberState, admitted_among, lease_of, replica_of}
use Rattle.bully_member.specs.Told.{answered, found, own_by, own_by_promise, own_promise, with_arrivals}
use Rattle.bully_member.specs.declared.opening.Terms.{Terms}
use Rattle.bully_member.specs.declared.values.Lease.{Lease}
use Rattle.bully_member.specs.declared.values.Promise.{Promise}
use Rattle.bully_member.specs.declared.values.Request.{Request}
use Rattle.bully_member.specs.declared.values.SessionState.{SessionState}
use Rattle.bully_member.specs.declared.values.Step.{Step}
use Rattle.bully_member.specs.declared.values.StoreAnswer.{StoreAnswer}
use Rattle.bully_round.proofs.TurnLemmas.{all_ended, look_is}
use Rattle.bully_round.specs.Progress.{AreEnds, DoesTasks, HasLooked, IsReported, Turn, is_task}
use Rattle.bully_run.specs.Calls.{Call}

-- what the epoch is for it, and the setup of its log
abbrev pub place_of : MemberState → Terms × Setup
place_of m = (m.terms, (replica_of m).world.setup)

own_place : (m : MemberState) (own : Option (Promise × Bool)) → place_of (own_by_promise m own) ≡ place_of m
own_place m None = refl
own_place m (Some own) = refl

own_by_place : (m : MemberState) (state : SessionState) (here : Option Lease) → place_of (own_by m state here) ≡ place_of m
own_by_place m SessionState.Absent here = refl
own_by_place m (SessionState.Unknown session) here = refl
own_by_place m (SessionState.Live session at) here = own_place m (own_promise m session here)

ends_place : (m mid after : MemberState) (calls : List Call) → place_of mid ≡ place_of m → AreEnds mid calls after → place_of after ≡ place_of m
ends_place m mid after calls same ends = ap place_of (all_ended calls mid after ends).same ∙ same

looked_place : (m mid after : MemberState) (now at : ℕ) → mid ≡ asked_for m now Request.Snapshot → HasLooked mid at after → place_of after ≡ place_of m
looked_place m mid after now at is looked =
    ap place_of (look_is mid looked.behind after now at looked.leases looked.has_unknown looked.has_request asked epoch looked.reads)
    ∙ own_by_place (found b at looked.leases looked.has_unknown looked.has_request (admitted_among b at looked.leases) after.coming after.affected) b.session (lease_of b.terms.node looked.leases)
    ∙ ap (λ (t : Terms). (t, (replica_of looked.behind).world.setup)) (ap (λ (x : MemberState). x.terms) looked.learns.rest)
    ∙ ap (λ (s : Setup). (mid.terms, s)) looked.learns.follows.setup
    ∙ ap place_of is
  where
    b : MemberState
    b = with_arrivals looked.behind at looked.leases

    asked : looked.behind.asked ≡ Some (record { request = Request.Snapshot; at = now })
    asked = ap (λ (x : MemberState). x.asked) looked.learns.rest ∙ ap (λ (x : MemberState). x.asked) is

    epoch : looked.behind.terms.epoch ≡ mid.terms.epoch
    epoch = ap (λ (x : MemberState). x.terms.epoch) looked.learns.rest

step_place : (m mid after : MemberState) (now at : ℕ) (st : Bool) (step : Step) → mid ≡ noted m now st step → IsReported mid at step after → is_task step ≡ true → place_of after ≡ place_of m
step_place m mid after now at st Step.Stop is reported task = ends_place m mid after reported.0 (ap place_of is) reported.1
step_place m mid after now at st (Step.Begin token) is reported task = ap place_of reported ∙ ap place_of is
step_place m mid after now at st (Step.Ask Request.Snapshot) is reported task = looked_place m mid after now at is reported
step_place m mid after now at st (Step.Ask (Request.Promise session offset)) is reported task = ap place_of reported ∙ ap (λ (x : MemberState). place_of (answered x at StoreAnswer.Done)) is
step_place m mid after now at st (Step.Ask (Request.Acquire session offset)) is reported task = absurd (cc task)
step_place m mid after now at st (Step.Ask (Request.Renew session)) is reported task = absurd (cc task)
step_place m mid after now at st (Step.Ask (Request.Release session)) is reported task = absurd (cc task)
step_place m mid after now at st (Step.Ask (Request.Append offset)) is reported task = absurd (cc task)
step_place m mid after now at st (Step.Ask (Request.RollOver offset)) is reported task = absurd (cc task)
step_place m mid after now at st (Step.Ask Request.Follow) is reported task = absurd (cc task)
step_place m mid after now at st (Step.Wait at_most until reason) is reported task = absurd (cc task)
step_place m mid after now at st (Step.BackOff at_most reason) is reported task = absurd (cc task)
step_place m mid after now at st (Step.End ending) is reported task = absurd (cc task)

pub tasks_place : (m after : MemberState) (turns : List Turn) → DoesTasks m turns after → place_of after ≡ place_of m
tasks_place m after [] does = ap place_of does
tasks_place m after (t ∷ turns) (mid, calm, turn, task, more) =
    tasks_place mid after turns more ∙ step_place m turn.mid mid t.now t.at turn.goes.sight.is_stable t.step turn.goes.noted turn.reported task
