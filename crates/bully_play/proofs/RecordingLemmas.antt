-- What is recorded stays a lawful list, event by event.
use Rattle.std.proofs.Common.{◌≡◌, ◌∙◌, ℕ, ◌+◌, ◌<◌, ◌==◌, Bool, true, false, inl, inr, drop, List, [], ◌∷◌, ◌++◌, Option, Some, None, MatchOption, Result, Ok, Err, OnOk, get_or, length, length-append, arith, refl, sym, ap, subst}
use Rattle.std.proofs.lemmas.Grind.{common_steps}
use Rattle.std.proofs.lemmas.List.{map-append}
use Rattle.std.specs.Bool.{MatchBool}
use Rattle.std.proofs.lemmas.List.Elements.{All-push}
use Rattle.bully_base.specs.declared.TheConstants.{EVENTS_MAX}
use Rattle.bully_base.specs.Setup.{Setup, IsSetup}
use Rattle.bully_calls.specs.declared.call.Answer.{Answer}
use Rattle.bully_config.specs.Configuration.{Configuration}
use Rattle.bully_config.specs.declared.config.Fault.{Fault}
use Rattle.bully_config.specs.declared.config.FaultKind.{FaultKind}
use Rattle.bully_play.specs.Play.{HasFault, IsDue, IsPlay, event_of_kind, event_of_fault, trace_setup, trace_with}
use Rattle.bully_play.specs.Recording.{RecordingState, IsRecorded, AddsRow, Applies, Steps, Continues}
use Rattle.bully_play.specs.Turns.{RunsLowest, GoesBy, ProceedsIn, GoesOn, Follows, TakesIn, IsTurn, Operates, Rounds, IsScheduled, first_recording, idle_first}
use Rattle.bully_play.proofs.LawfulLemmas.{lawful-bound}
use Rattle.bully_play.proofs.OperatorLemmas.{at_place}
use Rattle.bully_steps.specs.declared.driver.Choice.{Choice}
use Rattle.bully_steps.specs.Driver.{chosen_every}
use Rattle.bully_steps.specs.ProcedureState.{ProcedureState}
use Rattle.bully_rows.specs.declared.trace.Row.{Row}
use Rattle.bully_rows.specs.Trace.{Trace, trace_for}
use Rattle.bully_calls.specs.declared.event.Event.{Event}
use Rattle.bully_calls.specs.declared.event.Refused.{Refused}
use Rattle.bully_world.specs.Serving.{IsServed, NoneServed}
use Rattle.bully_world.specs.State.{WorldState, state_at, world_of, cause_in}
use Rattle.bully_world.specs.Step.{Step}
use Rattle.bully_world.specs.Turn.{step_event, procedure_after, turn}
use Rattle.bully_world.specs.declared.turn.Next.{Next}
use Rattle.bully_world.specs.declared.turn.StepKind.{StepKind}
use Rattle.bully_world.proofs.LawfulLemmas.{lawful_more}
use Rattle.bully_world.proofs.OwnEvents.{IsNodesOwn}
use Rattle.bully_world.proofs.TurnSteps.{turn_own}
use Rattle.bully_world.proofs.TurnTaken.{no_turn_raises}

-- an event more
pub recorded_more : (c : Configuration) (e : Event) (before after : RecordingState) → AddsRow e before after → IsDue c.faults e → IsRecorded c before → IsRecorded c after
recorded_more c e before after r due is =
    let room : length is.events < c.setup.events_max = grind (arith, is.counted, is.setup, r.counted, r.bounded, r.setup) in
    record {
      setup = r.setup ∙ is.setup;
      events = is.events ++ e ∷ [];
      answers = is.answers ++ r.answer ∷ [];
      rows = r.rows ∙ ap (λ (rows : List Row). rows ++ Row.Event e ∷ []) is.rows ∙ sym (map-append Row.Event is.events (e ∷ []));
      lawful = lawful_more c.setup is.events is.answers (world_of before.world) e r.answer (world_of after.world) is.lawful room
          (subst (λ (setup : Setup). Step setup (world_of before.world) e (world_of after.world) r.answer) is.setup r.step);
      counted = omega (arith, length-append is.events (e ∷ []), is.counted, r.counted);
      due = All-push (IsDue c.faults) is.events e is.due due;
    }

pub applied_recorded : (c : Configuration) (e : Event) (before after : RecordingState) → Applies e before after → IsDue c.faults e → IsRecorded c before → IsRecorded c after
applied_recorded c e before after does due is = by_cause (cause_in before.world e) does
  where
    by_cause : (q : Option Refused) → MatchOption q (AddsRow e before after) (λ why. after ≡ before) → IsRecorded c after
    by_cause None r = recorded_more c e before after r due is
    by_cause (Some why) same = rw same is

pub applied_setup : (e : Event) (before after : RecordingState) → Applies e before after → after.world.setup ≡ before.world.setup
applied_setup e before after does = by_cause (cause_in before.world e) does
  where
    by_cause : (q : Option Refused) → MatchOption q (AddsRow e before after) (λ why. after ≡ before) → after.world.setup ≡ before.world.setup
    by_cause None r = r.setup
    by_cause (Some why) same = ap (λ (r : RecordingState). r.world.setup) same

-- an event that needs no fault
pub applied_continues : (e : Event) (before after : RecordingState) → Applies e before after → ((c : Configuration) → IsDue c.faults e) → Continues before after
applied_continues e before after does due = record {
  setup = applied_setup e before after does;
  recorded = λ c. applied_recorded c e before after does (due c);
}

pub nothing_continues : (r : RecordingState) → Continues r r
nothing_continues r = record { setup = refl; recorded = λ c is. is }

pub continues_then : (before mid after : RecordingState) → Continues before mid → Continues mid after → Continues before after
continues_then before mid after one two = record {
  setup = two.setup ∙ one.setup;
  recorded = λ c is. two.recorded c (one.recorded c is);
}

-- a node's own step needs no fault
pub step_due : (faults : List Fault) (kind : StepKind) (h : ProcedureState) → IsDue faults (step_event kind h)
step_due faults kind h = own_due (step_event kind h) (turn_own kind h)
  where
    own_due : (e : Event) → IsNodesOwn h.node e → IsDue faults e
    own_due (Event.Recover i) own = elim own [ ]
    own_due (Event.Crash i) own = elim own [ ]
    own_due e own = tt

pub steps_continue : (kind : StepKind) (before : RecordingState) (h : ProcedureState) (after : RecordingState) (h' : ProcedureState) → Steps kind before h after h' → Continues before after
steps_continue kind before h after h' (inl taken) = record {
  setup = taken.0.setup;
  recorded = λ c is. recorded_more c (step_event kind h) before after taken.0 (step_due c.faults kind h) is;
}
steps_continue kind before h after h' (inr full) = rw full.1 (nothing_continues before)

-- a node's turn
serves_continue : (before : RecordingState) (i : ℕ) (served : Bool) (after : RecordingState) → RunsLowest before i served after → Continues before after
serves_continue before i true after does = applied_continues (Event.Run does.0) before after does.2 (λ c. tt)
serves_continue before i false after does = rw does.0 (nothing_continues before)

proceeds_continue : (next : Next) (before : RecordingState) (h : ProcedureState) (after : RecordingState) (h' : ProcedureState) → GoesBy next before h after h' → Continues before after
proceeds_continue Next.Resync before h after h' does = rw does.0 (nothing_continues before)
proceeds_continue Next.Rest before h after h' does = rw does.0 (nothing_continues before)
proceeds_continue (Next.Take kind) before h after h' does = steps_continue kind before h after h' does

goes_on_continues : (choice : Choice) (before : RecordingState) (h : ProcedureState) (after : RecordingState) (h' : ProcedureState) → GoesOn Applies ProceedsIn choice before h after h' → Continues before after
goes_on_continues Choice.Check before h after h' does = applied_continues (Event.Check h.node) before after does.0 (λ c. tt)
goes_on_continues Choice.Timeout before h after h' does = applied_continues (Event.Timeout h.node) before after does.0 (λ c. tt)
goes_on_continues Choice.Proceed before h after h' does = proceeds_continue (turn before.world h) before h after h' does

follows_continues : (served : Bool) (choice : Choice) (before : RecordingState) (h : ProcedureState) (after : RecordingState) (h' : ProcedureState) → Follows Applies ProceedsIn served choice before h after h' → Continues before after
follows_continues true choice before h after h' does = rw does.0 (nothing_continues before)
follows_continues false choice before h after h' does = goes_on_continues choice before h after h' does

takes_continues : (choice : Choice) (before : RecordingState) (h : ProcedureState) (after : RecordingState) (h' : ProcedureState) → TakesIn choice before h after h' → Continues before after
takes_continues choice before h after h' does =
    continues_then before does.1 after (serves_continue before h.node does.0 does.1 does.2) (follows_continues does.0 choice does.1 h after h' does.3)

turn_continues : (period number : ℕ) (before : RecordingState) (h : ProcedureState) (after : RecordingState) (h' : ProcedureState) → IsTurn period number before h after h' → Continues before after
turn_continues period number before h after h' does = takes_continues (chosen_every period number does.0.point) before does.0 after h' does.2

-- the turn of a node that serves, and of one that serves nobody
pub serves_turn : {X E : Type 0} (result : Result X E) (choice : Choice) (before : RecordingState) (h : ProcedureState) (after : RecordingState) (node caller : ℕ) → node ≡ h.node → IsServed before.world node caller → OnOk result (Applies (Event.Run caller) before after) → OnOk result (TakesIn choice before h after h)
serves_turn (Ok x) choice before h after node caller same is ran = (true, after, (caller, subst (λ (i : ℕ). IsServed before.world i caller) same is, ran), (refl, refl))
serves_turn (Err e) choice before h after node caller same is ran = tt

pub chosen_turn : {X E : Type 0} (result : Result X E) (choice : Choice) (before : RecordingState) (h : ProcedureState) (after : RecordingState) (h' : ProcedureState) (node : ℕ) → node ≡ h.node → NoneServed before.world node → OnOk result (GoesOn Applies ProceedsIn choice before h after h') → OnOk result (TakesIn choice before h after h')
chosen_turn (Ok x) choice before h after h' node same none goes = (false, before, (refl, subst (NoneServed before.world) same none), goes)
chosen_turn (Err e) choice before h after h' node same none goes = tt

pub turn_ok : {A E : Type 0} (result : Result A E) (period number : ℕ) (before : RecordingState) (h : ProcedureState) (after : RecordingState) (h' : ProcedureState) → OnOk result (IsTurn period number before h after h') → OnOk result (Continues before after)
turn_ok (Ok x) period number before h after h' does = turn_continues period number before h after h' does
turn_ok (Err e) period number before h after h' does = tt

-- a step that the world took, with its row
pub steps_taken : (kind : StepKind) (h h' : ProcedureState) (e : Event) (a : Answer) (w : WorldState) (before after : RecordingState) → e ≡ step_event kind h → Step before.world.setup (world_of before.world) e (world_of w) a → w.setup ≡ before.world.setup
    → w.events ≡ before.world.events + 1 → before.world.events < before.world.setup.events_max → ((i : ℕ) → (state_at w i).generation ≡ (state_at before.world i).generation) → h' ≡ procedure_after kind a h → after ≡ record { world = w; rows = before.rows ++ Row.Event e ∷ [] } → Steps kind before h after h'
steps_taken kind h h' e a w before after named step setup counted room same went is =
    rw (is, went) (inl (record { answer = a; step = rw (← named) step; setup = setup; counted = counted; bounded = grind (arith, setup, counted, room); generations = no_turn_raises before.world w kind h same; rows = rw named refl }, refl))

-- a fault's event is due
due_of_kind : (faults : List Fault) (kind : FaultKind) (node : ℕ) → HasFault faults kind node → IsDue faults (event_of_kind kind node)
due_of_kind faults FaultKind.Crash node has = has
due_of_kind faults FaultKind.Recover node has = has

pub faults_due : (faults : List Fault) (place : ℕ) (fault : Fault) (rest : List Fault) → drop place faults ≡ fault ∷ rest → IsDue faults (event_of_fault fault)
faults_due faults place fault rest is = due_of_kind faults fault.kind fault.node (place, fault, grind (arith, common_steps, is), grind (arith, common_steps, is), (refl, refl))

-- the faults after the one at this place
pub later_place : (faults : List Fault) (place : ℕ) (fault : Fault) (rest : List Fault) → drop place faults ≡ fault ∷ rest → drop (place + 1) faults ≡ rest
later_place faults place fault rest is =
    let below : place < length faults = grind (arith, common_steps, is) in
    let there : fault ≡ get_or faults place fault = grind (arith, common_steps, is) in
    grind (arith, at_place faults place fault below there, is)

-- the operator's turn, from the fault at this place on
operates_recorded : (c : Configuration) (number place : ℕ) (faults : List Fault) (before after : RecordingState) → drop place c.faults ≡ faults → Operates number faults before after → IsRecorded c before → IsRecorded c after
operates_recorded c number place [] before after at does is = rw does is
operates_recorded c number place (fault ∷ faults) before after at does is =
    let next : drop (place + 1) c.faults ≡ faults = later_place c.faults place fault faults at in
    by_turn (fault.at == number) does (faults_due c.faults place fault faults at) (λ mid rest was. operates_recorded c number (place + 1) faults mid after next rest was)
  where
    by_turn : (b : Bool) → MatchBool b ((mid : RecordingState) × Applies (event_of_fault fault) before mid × Operates number faults mid after) (Operates number faults before after) → IsDue c.faults (event_of_fault fault)
        → ((mid : RecordingState) → Operates number faults mid after → IsRecorded c mid → IsRecorded c after) → IsRecorded c after
    by_turn true now due later = later now.0 now.2 (applied_recorded c (event_of_fault fault) before now.0 now.1 due is)
    by_turn false now due later = later before now is

pub operator_recorded : (c : Configuration) (number : ℕ) (before after : RecordingState) → Operates number c.faults before after → IsRecorded c before → IsRecorded c after
operator_recorded c number before after does is = operates_recorded c number 0 c.faults before after refl does is

-- what is recorded is a play
pub recorded_play : (c : Configuration) (r : RecordingState) → IsSetup c.setup → (is : IsRecorded c r) → IsPlay c is.events
recorded_play c r within is = record {
  answers = is.answers;
  world = world_of r.world;
  lawful = is.lawful;
  lawful_in_trace = lawful-bound c.setup EVENTS_MAX is.events is.answers (world_of r.world) within.events.1 is.lawful;
  due = is.due;
}

-- and so is its trace
pub recorded_trace : (c : Configuration) (r : RecordingState) (hs : List ProcedureState) (trace : Trace) → IsSetup c.setup → Rounds c.faults c.period c.turns 1 (first_recording c.setup) (idle_first c.setup c.setup.nodes) r hs → (is : IsRecorded c r)
    → trace ≡ trace_for (trace_setup r.world.setup) r.rows → (events : List Event) × IsPlay c events × IsScheduled c events × (trace ≡ trace_with c.setup events)
recorded_trace c r hs trace within rounds is same =
    let told : trace ≡ trace_with c.setup is.events =
    same ∙ ap (λ (setup : Setup). trace_for (trace_setup setup) r.rows) is.setup ∙ ap (trace_for (trace_setup c.setup)) is.rows in
    (is.events, recorded_play c r within is, record { last = r; procedures = hs; rounds = rounds; rows = is.rows }, told)
