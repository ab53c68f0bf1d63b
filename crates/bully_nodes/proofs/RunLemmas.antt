-- What a thread's turns keep, and what the seats of all threads make of the history.
use Rattle.std.proofs.Common.{OnOk, ◌≡◌, ◌∙◌, ℕ, zero, suc, ◌+◌, ◌<◌, ◌≤◌, ◌==◌, ◌⊎◌, inl, inr, Bool, true, false, List, [], ◌∷◌, Option, Some, None, Result, Ok, Err, IfOk, IfErr, IfSome, All, get_or, map, drop, length, length-append, if◌then◌else◌, arith, refl, sym, ap, subst, slice_get}
use Rattle.std.specs.Bool.{MatchBool}
use Rattle.std.proofs.lemmas.List.Elements.{All-push, All-nil, All-cons}
use Rattle.std.proofs.lemmas.Option.{slice_get_within, get_or_from_slice_get, slice_get-get_or}
use Rattle.bully_agree.specs.View.{View, NodeView, IsViewed, shown}
use Rattle.bully_agree.proofs.ViewLemmas.{shown_there}
use Rattle.bully_base.specs.declared.TheConstants.{EVENTS_MAX}
use Rattle.bully_base.specs.Setup.{IsSetup}
use Rattle.bully_config.specs.Configuration.{Configuration}
use Rattle.bully_config.specs.declared.config.Fault.{Fault}
use Rattle.bully_group.specs.declared.locked.turn.NodeTurn.{NodeTurn}
use Rattle.bully_group.specs.declared.locked.step.StepFault.{StepFault}
use Rattle.bully_group.specs.Finish.{EachInOneLog}
use Rattle.bully_group.specs.Locked.{LockedState, IsLocked}
use Rattle.bully_group.specs.Seat.{SeatState, AreNewSeats}
use Rattle.bully_group.specs.Steps.{MayServe, IsServeFault, Serves as Served}
use Rattle.bully_group.specs.Turns.{MayTurn, Goes, IsTurnFault, IsNodeTurn, IsServeOrTurnFault, IsNodeTurnFault, adds_entry}
use Rattle.bully_play.specs.Play.{IsDue, IsPlay, event_of_fault}
use Rattle.bully_nodes.specs.Run.{SeatAndPass, Hold, Logs, Applies, AppliesAt, PreparesAt, IsServeRefused, Serves, ServesOrApplies, Proceeds, TakesAt, HasDueLog, IsGivenBack, IsRoleOf, procedure_of, IsActorsTurn, ActorsTurns}
use Rattle.bully_nodes.specs.declared.jobs.Role.{Role}
use Rattle.bully_play.specs.Schedule.{AreLeft}
use Rattle.bully_play.specs.Turns.{GoesOn, Follows, ServesOrGoesOn, IsTurnOn, OperatesOn}
use Rattle.bully_play.proofs.LawfulLemmas.{lawful-bound}
use Rattle.bully_play.proofs.RecordingLemmas.{step_due, faults_due, later_place}
use Rattle.bully_steps.specs.declared.driver.Choice.{Choice}
use Rattle.bully_steps.specs.Driver.{chosen_every}
use Rattle.bully_steps.specs.declared.procedure.Procedure.{Procedure}
use Rattle.bully_steps.specs.ProcedureState.{ProcedureState}
use Rattle.bully_steps.specs.Procedure.{state_of}
use Rattle.bully_watch.specs.declared.entry.Entry.{Entry}
use Rattle.bully_watch.specs.declared.knowledge.PublisherId.{PublisherId}
use Rattle.bully_watch.specs.History.{event_of, answer_of}
use Rattle.bully_calls.specs.declared.event.Event.{Event}
use Rattle.bully_world.specs.Serving.{NoneServed}
use Rattle.bully_world.specs.State.{world_of}
use Rattle.bully_world.specs.World.{node_state}
use Rattle.bully_world.proofs.NodeInvariantLemmas.{lawful_fits}
use Rattle.bully_world.specs.Turn.{step_event}

abbrev held : SeatState → ℕ → SeatAndPass
held seat counted = record { seat = seat; counted = counted }

abbrev hold : LockedState → SeatState → ℕ → Hold
hold s seat counted = record { group = s; own = held seat counted }

-- what a turn of a locked group does to the group, a seat and a pass
module _ (s s' : LockedState) (seat seat' : SeatState) (h h' : ProcedureState) (n n' : ℕ) where
  abbrev Takes : Type 0
  Takes = ServesOrGoesOn Applies Serves Proceeds Choice.Proceed (hold s seat n) h (hold s' seat' n') h'

  may_serve : 0 < h.node → MayTurn s seat h → MayServe s seat
  may_serve positive may = (may.0, rw may.1 positive)

  -- nothing changes
  abbrev Same : Type 0
  Same = (s' ≡ s) × (seat' ≡ seat) × (h' ≡ h)

  same_hold : s' ≡ s → seat' ≡ seat → n' ≡ n → hold s' seat' n' ≡ hold s seat n
  same_hold group own counted = rw (group, own, counted) refl

  -- no call is served, and the procedure does this
  unserved : 0 < h.node → MayTurn s seat h → NoneServed s.world seat.actor → Proceeds (hold s seat n) h (hold s' seat' n') h' → Takes
  unserved positive may none goes = (false, hold s seat n, (refl, may_serve positive may, none), goes)

  served : Served s seat s' seat' → h' ≡ h → n' ≡ n + 1 → Takes
  served ran same counted = (true, hold s' seat' n', inl (ran.1, ran.2, record { records = ran.4; counted = counted }), (refl, same))

  went : 0 < h.node → NoneServed s.world seat.actor → Goes s seat h s' seat' h' → n' ≡ n + 1 → Takes
  went positive none goes counted = unserved positive goes.0 none (inl (goes.1, record { records = goes.4; counted = counted }, goes.5, goes.2))

  refused : (fault : StepFault) → IsServeRefused s seat h.node fault → Same → n' ≡ n → Takes
  refused fault is same counted = (true, hold s seat n, inr (refl, fault, is), (same_hold same.0 same.1 counted, same.2))

  late : (fault : StepFault) → 0 < h.node → IsServeOrTurnFault s seat h fault → Same → n' ≡ n → Takes
  late fault positive is same counted = by_part is.1
    where
      by_part : IsServeFault s seat fault ⊎ (NoneServed s.world seat.actor × IsTurnFault s seat h fault) → Takes
      by_part (inl serve) = refused fault (inl serve) same counted
      by_part (inr turn) = unserved positive is.0 turn.0 (inr (same_hold same.0 same.1 counted, inr (inr (fault, (turn.1, same.2)))))

  pub turned : (answer : Result NodeTurn StepFault) → 0 < h.node → IfOk answer (IsNodeTurn s seat h s' seat' h') → IfErr answer (IsNodeTurnFault s seat h) → IfErr answer (λ _. Same) → n' ≡ (if adds_entry answer then n + 1 else n) → Takes
  turned (Ok NodeTurn.Served) positive turns fails same counted = served turns.1 turns.2 counted
  turned (Ok NodeTurn.Went) positive turns fails same counted = went positive turns.0 turns.1 counted
  turned (Ok NodeTurn.Waiting) positive turns fails same counted =
      unserved positive turns.1.0.0 turns.0 (inr (same_hold turns.1.1 turns.1.2 counted, inl turns.1.0))
  turned (Ok NodeTurn.Resynced) positive turns fails same counted =
      unserved positive turns.1.0.0 turns.0 (inr (same_hold turns.1.1 turns.1.2 counted, inr (inl turns.1.0)))
  turned (Err (StepFault.Foreign index)) positive turns fails same counted = refused (StepFault.Foreign index) (inl fails) same counted
  turned (Err StepFault.NotYours) positive turns fails same counted = refused StepFault.NotYours (inr (refl, fails.0, fails.1)) same counted
  turned (Err (StepFault.Refused why)) positive turns fails same counted = late (StepFault.Refused why) positive fails same counted
  turned (Err StepFault.OutOfMemory) positive turns fails same counted = late StepFault.OutOfMemory positive fails same counted

-- a serve that ends the turn, and one that doesn't
pub ends_served : (e : Event) (served : Bool) (before after : Hold) → served ≡ true → ((node : ℕ) → Serves before node served after) → ServesOrApplies e before after
ends_served e served before after is serves = inl (λ node. subst (λ (b : Bool). Serves before node b after) is (serves node))

pub ends_applied : {X E : Type 0} (result : Result X E) (e : Event) (served : Bool) (before mid after : Hold) → served ≡ false → ((node : ℕ) → Serves before node served mid) → OnOk result (Applies e mid after) → OnOk result (ServesOrApplies e before after)
ends_applied (Ok x) e served before mid after is serves applies = inr (mid, (λ node. subst (λ (b : Bool). Serves before node b mid) is (serves node)), applies)
ends_applied (Err x) e served before mid after is serves applies = tt

-- what a node does that chose an event
checks : (h : ProcedureState) (before after : Hold) → ServesOrApplies (Event.Check h.node) before after → ServesOrGoesOn Applies Serves Proceeds Choice.Check before h after h
checks h before after (inl serves) = (true, after, serves h.node, (refl, refl))
checks h before after (inr goes) = (false, goes.0, goes.1 h.node, (goes.2, refl))

times_out : (h : ProcedureState) (before after : Hold) → ServesOrApplies (Event.Timeout h.node) before after → ServesOrGoesOn Applies Serves Proceeds Choice.Timeout before h after h
times_out h before after (inl serves) = (true, after, serves h.node, (refl, refl))
times_out h before after (inr goes) = (false, goes.0, goes.1 h.node, (goes.2, refl))

-- one hold of the lock, by what is done in it
module _ (IsState : LockedState → Type 0) (choice : Choice) (s s' : LockedState) (before after : SeatAndPass) (h : ProcedureState) (is : IsState s) where
  abbrev from : Hold
  from = record { group = s; own = before }

  abbrev to : Hold
  to = record { group = s'; own = after }

  pub in_hold : {X E : Type 0} (result : Result X E) (h' : ProcedureState) → choice ≡ Choice.Proceed → OnOk result (ServesOrGoesOn Applies Serves Proceeds Choice.Proceed from h to h') → OnOk result (TakesAt IsState choice before h after h')
  in_hold (Ok x) h' chosen does = (s, s', is, subst (λ (k : Choice). ServesOrGoesOn Applies Serves Proceeds k from h to h') (sym chosen) does)
  in_hold (Err e) h' chosen does = tt

  pub check_in_hold : {X E : Type 0} (result : Result X E) (node : ℕ) → choice ≡ Choice.Check → node ≡ h.node → OnOk result (ServesOrApplies (Event.Check node) from to) → OnOk result (TakesAt IsState choice before h after h)
  check_in_hold (Ok x) node chosen same does =
      let all : ServesOrGoesOn Applies Serves Proceeds Choice.Check from h to h = checks h from to (subst (λ (i : ℕ). ServesOrApplies (Event.Check i) from to) same does) in
      (s, s', is, subst (λ (k : Choice). ServesOrGoesOn Applies Serves Proceeds k from h to h) (sym chosen) all)
  check_in_hold (Err e) node chosen same does = tt

  pub timeout_in_hold : {X E : Type 0} (result : Result X E) (node : ℕ) → choice ≡ Choice.Timeout → node ≡ h.node → OnOk result (ServesOrApplies (Event.Timeout node) from to) → OnOk result (TakesAt IsState choice before h after h)
  timeout_in_hold (Ok x) node chosen same does =
      let all : ServesOrGoesOn Applies Serves Proceeds Choice.Timeout from h to h = times_out h from to (subst (λ (i : ℕ). ServesOrApplies (Event.Timeout i) from to) same does) in
      (s, s', is, subst (λ (k : Choice). ServesOrGoesOn Applies Serves Proceeds k from h to h) (sym chosen) all)
  timeout_in_hold (Err e) node chosen same does = tt

-- a task that is shown has the setup's partitions
sized : (n : ℕ) (task : Option (List ℕ)) → ((table : List ℕ) → task ≡ Some table → length table ≡ n) → IfSome task (λ t. length t ≡ n)
sized n None fits = tt
sized n (Some table) fits = fits table refl

pub viewed_task : (v : View) (i : ℕ) → IsViewed v → IfSome (shown v i).task (λ t. length t ≡ v.setup.partitions)
viewed_task v i is =
    let there : (shown v i).task ≡ (node_state is.world i).vector.task = ap (λ (x : View). (shown x i).task) is.view ∙ ap (λ (s : NodeView). s.task) (shown_there v.setup (length is.events) is.world i) in
    rw there (sized v.setup.partitions (node_state is.world i).vector.task ((lawful_fits v.setup is.events is.answers is.world is.lawful).fits i).by_setup.task)

-- a turn that is taken on whatever holds a seat and a pass, told of these two
module _ {S : Type 0} (IsState : LockedState → Type 0) (at : S → SeatAndPass) where
  operates_at : (number : ℕ) (faults : List Fault) (before after : S) → OperatesOn (λ (e : Event) (b a : S). AppliesAt IsState e (at b) (at a)) number faults before after → OperatesOn (AppliesAt IsState) number faults (at before) (at after)
  operates_at number [] before after does = ap at does
  operates_at number (fault ∷ faults) before after does = by_turn (fault.at == number) does (λ mid rest. operates_at number faults mid after rest)
    where
      by_turn : (b : Bool) → MatchBool b ((mid : S) × AppliesAt IsState (event_of_fault fault) (at before) (at mid) × OperatesOn (λ (e : Event) (b a : S). AppliesAt IsState e (at b) (at a)) number faults mid after) (OperatesOn (λ (e : Event) (b a : S). AppliesAt IsState e (at b) (at a)) number faults before after)
          → ((mid : S) → OperatesOn (λ (e : Event) (b a : S). AppliesAt IsState e (at b) (at a)) number faults mid after → OperatesOn (AppliesAt IsState) number faults (at mid) (at after))
          → MatchBool b ((mid : SeatAndPass) × AppliesAt IsState (event_of_fault fault) (at before) mid × OperatesOn (AppliesAt IsState) number faults mid (at after)) (OperatesOn (AppliesAt IsState) number faults (at before) (at after))
      by_turn true now rest = (at now.0, now.1, rest now.0 now.2)
      by_turn false now rest = rest before now

  pub operator_turn_ok : {X E : Type 0} (result : Result X E) (c : Configuration) (number : ℕ) (left : List Fault) (before after : S) → AreLeft c.faults number left → OnOk result ((faults : List Fault) → AreLeft faults number left → OperatesOn (λ (e : Event) (b a : S). AppliesAt IsState e (at b) (at a)) number faults before after)
      → OnOk result (IsActorsTurn IsState c number (at before) None (at after) None)
  operator_turn_ok (Ok x) c number left before after are does = operates_at number c.faults before after (does c.faults are)
  operator_turn_ok (Err e) c number left before after are does = tt

  pub node_turn_ok : {X E : Type 0} (result : Result X E) (c : Configuration) (period number : ℕ) (before : S) (h : ProcedureState) (after : S) (h' : ProcedureState) → period ≡ c.period
      → OnOk result (IsTurnOn (λ (b : S) (g ready : ProcedureState). PreparesAt IsState (at b) g ready) (λ (choice : Choice) (b : S) (g : ProcedureState) (a : S) (g' : ProcedureState). TakesAt IsState choice (at b) g (at a) g') period number before h after h')
      → OnOk result (IsActorsTurn IsState c number (at before) (Some h) (at after) (Some h'))
  node_turn_ok (Ok x) c period number before h after h' same does =
      subst (λ (n : ℕ). IsTurnOn (PreparesAt IsState) (TakesAt IsState) n number (at before) h (at after) h') same does
  node_turn_ok (Err e) c period number before h after h' same does = tt

-- the same of what the actor's role holds
pub operator_turned : {X E S : Type 0} (result : Result X E) (IsState : LockedState → Type 0) (c : Configuration) (number : ℕ) (role : Role) (left : List Fault) (before after : S) (at : S → SeatAndPass) → role ≡ Role.Operator left → IsRoleOf c number role → OnOk result ((faults : List Fault) → AreLeft faults number left → OperatesOn (λ (e : Event) (b a : S). AppliesAt IsState e (at b) (at a)) number faults before after)
    → OnOk result (IsActorsTurn IsState c number (at before) (procedure_of role) (at after) None)
operator_turned result IsState c number role left before after at is holds does =
    subst (λ (r : Role). OnOk result (IsActorsTurn IsState c number (at before) (procedure_of r) (at after) None)) (sym is)
    (operator_turn_ok IsState at result c number left before after (subst (λ (r : Role). IsRoleOf c number r) is holds) does)

pub node_turned : {X E S : Type 0} (result : Result X E) (IsState : LockedState → Type 0) (c : Configuration) (period number : ℕ) (role : Role) (p : Procedure) (h' : ProcedureState) (before after : S) (at : S → SeatAndPass) → role ≡ Role.Node p → period ≡ c.period
    → OnOk result (IsTurnOn (λ (b : S) (g ready : ProcedureState). PreparesAt IsState (at b) g ready) (λ (choice : Choice) (b : S) (g : ProcedureState) (a : S) (g' : ProcedureState). TakesAt IsState choice (at b) g (at a) g') period number before (state_of p) after h')
    → OnOk result (IsActorsTurn IsState c number (at before) (procedure_of role) (at after) (Some h'))
node_turned result IsState c period number role p h' before after at is same does =
    subst (λ (r : Role). OnOk result (IsActorsTurn IsState c number (at before) (procedure_of r) (at after) (Some h'))) (sym is)
    (node_turn_ok IsState at result c period number before (state_of p) after h' same does)

module _ (IsState : LockedState → Type 0) (faults : List Fault) (actor : ℕ) where
  -- an entry that is due is kept, and so is a seat as it was
  logs_keep : (e : Event) (before after : Hold) → IsDue faults e → Logs e before after → IsGivenBack faults actor before.own → IsGivenBack faults actor after.own
  logs_keep e before after due logs kept = record {
    actor = logs.records.actor ∙ kept.actor;
    due = rw logs.records.log (All-push (λ (told : ℕ × Entry). IsDue faults told.1.event) before.own.seat.log _ kept.due due);
    counted = logs.counted ∙ (ap (λ (k : ℕ). k + 1) kept.counted ∙ sym (ap length logs.records.log ∙ length-append before.own.seat.log _));
  }

  same_keeps : (before after : Hold) → after ≡ before → IsGivenBack faults actor before.own → IsGivenBack faults actor after.own
  same_keeps before after same kept = subst (λ (held : Hold). IsGivenBack faults actor held.own) (sym same) kept

  applies_keep : (e : Event) (before after : Hold) → IsDue faults e → Applies e before after → IsGivenBack faults actor before.own → IsGivenBack faults actor after.own
  applies_keep e before after due (inl logs) kept = logs_keep e before after due logs kept
  applies_keep e before after due (inr same) kept = same_keeps before after same.0 kept

  serves_keep : (node : ℕ) (served : Bool) (before after : Hold) → Serves before node served after → IsGivenBack faults actor before.own → IsGivenBack faults actor after.own
  serves_keep node true before after (inl ran) kept = logs_keep (Event.Run ran.0) before after tt ran.2 kept
  serves_keep node true before after (inr same) kept = same_keeps before after same.0 kept
  serves_keep node false before after same kept = same_keeps before after same.0 kept

  proceeds_keep : (before : Hold) (h : ProcedureState) (after : Hold) (h' : ProcedureState) → Proceeds before h after h' → IsGivenBack faults actor before.own → IsGivenBack faults actor after.own
  proceeds_keep before h after h' (inl taken) kept = logs_keep (step_event taken.0 h) before after (step_due faults taken.0 h) taken.1 kept
  proceeds_keep before h after h' (inr same) kept = same_keeps before after same.0 kept

  goes_on_keeps : (choice : Choice) (before : Hold) (h : ProcedureState) (after : Hold) (h' : ProcedureState) → GoesOn Applies Proceeds choice before h after h' → IsGivenBack faults actor before.own → IsGivenBack faults actor after.own
  goes_on_keeps Choice.Check before h after h' does kept = applies_keep (Event.Check h.node) before after tt does.0 kept
  goes_on_keeps Choice.Timeout before h after h' does kept = applies_keep (Event.Timeout h.node) before after tt does.0 kept
  goes_on_keeps Choice.Proceed before h after h' does kept = proceeds_keep before h after h' does kept

  follows_keeps : (served : Bool) (choice : Choice) (before : Hold) (h : ProcedureState) (after : Hold) (h' : ProcedureState) → Follows Applies Proceeds served choice before h after h' → IsGivenBack faults actor before.own → IsGivenBack faults actor after.own
  follows_keeps true choice before h after h' does kept = same_keeps before after does.0 kept
  follows_keeps false choice before h after h' does kept = goes_on_keeps choice before h after h' does kept

  -- the operator's event, and a node's turn
  applied_keeps : (e : Event) (before after : SeatAndPass) → IsDue faults e → AppliesAt IsState e before after → IsGivenBack faults actor before → IsGivenBack faults actor after
  applied_keeps e before after due does kept = applies_keep e _ _ due does.3 kept

  takes_keep : (choice : Choice) (before : SeatAndPass) (h : ProcedureState) (after : SeatAndPass) (h' : ProcedureState) → TakesAt IsState choice before h after h' → IsGivenBack faults actor before → IsGivenBack faults actor after
  takes_keep choice before h after h' does kept =
      let all = does.3 in
      follows_keeps all.0 choice all.1 h _ h' all.3 (serves_keep h.node all.0 _ all.1 all.2 kept)

  turn_keeps : (period number : ℕ) (before : SeatAndPass) (h : ProcedureState) (after : SeatAndPass) (h' : ProcedureState)
      → IsTurnOn (PreparesAt IsState) (TakesAt IsState) period number before h after h'
      → IsGivenBack faults actor before → IsGivenBack faults actor after
  turn_keeps period number before h after h' does kept = takes_keep (chosen_every period number does.0.point) before does.0 after h' does.2 kept

  operates_keep : (number place : ℕ) (rest : List Fault) (before after : SeatAndPass) → drop place faults ≡ rest → OperatesOn (AppliesAt IsState) number rest before after → IsGivenBack faults actor before → IsGivenBack faults actor after
  operates_keep number place [] before after is does kept = subst (λ (s : SeatAndPass). IsGivenBack faults actor s) (sym does) kept
  operates_keep number place (fault ∷ rest) before after is does kept =
      by_turn (fault.at == number) does (faults_due faults place fault rest is) (λ mid later was. operates_keep number (place + 1) rest mid after (later_place faults place fault rest is) later was)
    where
      by_turn : (b : Bool) → MatchBool b ((mid : SeatAndPass) × AppliesAt IsState (event_of_fault fault) before mid × OperatesOn (AppliesAt IsState) number rest mid after) (OperatesOn (AppliesAt IsState) number rest before after) → IsDue faults (event_of_fault fault)
          → ((mid : SeatAndPass) → OperatesOn (AppliesAt IsState) number rest mid after → IsGivenBack faults actor mid → IsGivenBack faults actor after) → IsGivenBack faults actor after
      by_turn true now due later = later now.0 now.2 (applied_keeps (event_of_fault fault) before now.0 due now.1 kept)
      by_turn false now due later = later before now kept

-- an actor's turn, and all of them
actors_turn_keeps : (IsState : LockedState → Type 0) (c : Configuration) (i number : ℕ) (before : SeatAndPass) (h : Option ProcedureState) (after : SeatAndPass) (h' : Option ProcedureState) → IsActorsTurn IsState c number before h after h' → IsGivenBack c.faults i before → IsGivenBack c.faults i after
actors_turn_keeps IsState c i number before None after None does kept = operates_keep IsState c.faults i number 0 c.faults before after refl does kept
actors_turn_keeps IsState c i number before (Some h) after (Some h') does kept = turn_keeps IsState c.faults i c.period number before h after h' does kept
actors_turn_keeps IsState c i number before None after (Some h') does kept = elim does [ ]
actors_turn_keeps IsState c i number before (Some h) after None does kept = elim does [ ]

pub actors_turns_keep : (IsState : LockedState → Type 0) (c : Configuration) (i turns number : ℕ) (before : SeatAndPass) (h : Option ProcedureState) (after : SeatAndPass) (h' : Option ProcedureState) → ActorsTurns IsState c turns number before h after h' → IsGivenBack c.faults i before → IsGivenBack c.faults i after
actors_turns_keep IsState c i zero number before h after h' does kept = subst (λ (s : SeatAndPass). IsGivenBack c.faults i s) (sym does.0) kept
actors_turns_keep IsState c i (suc turns) number before h after h' does kept =
    actors_turns_keep IsState c i turns (number + 1) does.0 does.1 after h' does.3 (actors_turn_keeps IsState c i number before h does.0 does.1 does.2 kept)

-- a turn more
turns_more : (IsState : LockedState → Type 0) (c : Configuration) (so_far number last : ℕ) (start before after : SeatAndPass) (h mid h' : Option ProcedureState) → number + so_far ≡ last → ActorsTurns IsState c so_far number start h before mid → IsActorsTurn IsState c last before mid after h' → ActorsTurns IsState c (suc so_far) number start h after h'
turns_more IsState c zero number last start before after h mid h' e turns turn =
    let now : last ≡ number = omega (arith, e) in
    (after, h', subst (λ (n : ℕ). IsActorsTurn IsState c n start h after h') now (rw (← turns.0, ← turns.1) turn), (refl, refl))
turns_more IsState c (suc n) number last start before after h mid h' e turns turn =
    (turns.0, turns.1, turns.2, turns_more IsState c n (number + 1) last turns.0 before after turns.1 mid h' (omega (arith, e)) turns.3 turn)

pub turns_next : (IsState : LockedState → Type 0) (c : Configuration) (so_far : ℕ) (start before after : SeatAndPass) (h mid h' : Option ProcedureState) → ActorsTurns IsState c so_far 1 start h before mid → IsActorsTurn IsState c (so_far + 1) before mid after h' → ActorsTurns IsState c (so_far + 1) 1 start h after h'
turns_next IsState c so_far start before after h mid h' turns turn =
    let more : suc so_far ≡ so_far + 1 = omega arith in
    subst (λ (n : ℕ). ActorsTurns IsState c n 1 start h after h') more (turns_more IsState c so_far 1 (so_far + 1) start before after h mid h' (omega arith) turns turn)

-- new seats, of actors up to the last node
pub new_seats : (nodes : ℕ) (seats : List SeatState) → AreNewSeats (nodes + 1) seats → All (λ s. (s.actor ≤ nodes) × (s.log ≡ [])) seats
new_seats nodes seats are k d low =
    let new = are.each k (get_or seats k d) (slice_get-get_or seats k d low) in
    (omega (arith, new.0, are.len, low), new.1)

-- each entry of the history stands in a seat's log, so it is due
one_due : (faults : List Fault) (history : List Entry) (seats : List SeatState) → All (HasDueLog faults) seats → EachInOneLog history seats → (k : ℕ) (e : Entry) → slice_get history k ≡ Some e → IsDue faults e.event
one_due faults history seats own once k e there =
    let log = once k e there in
    let due : All (λ (told : ℕ × Entry). IsDue faults told.1.event) log.seat.log
    = subst (λ (t : SeatState). All (λ (told : ℕ × Entry). IsDue faults told.1.event) t.log) (get_or_from_slice_get seats log.at log.seat log.seat log.there)
    (own log.at log.seat (slice_get_within seats log.at log.seat log.there)) in
    subst (λ (told : ℕ × Entry). IsDue faults told.1.event) (get_or_from_slice_get log.seat.log log.place (k, e) (k, e) log.stands)
    (due log.place (k, e) (slice_get_within log.seat.log log.place (k, e) log.stands))

due_all : (faults : List Fault) (history : List Entry) → ((k : ℕ) (e : Entry) → slice_get history k ≡ Some e → IsDue faults e.event) → All (IsDue faults) (map event_of history)
due_all faults [] each = All-nil (IsDue faults)
due_all faults (e ∷ history) each = All-cons (IsDue faults) e.event (map event_of history) (each zero e refl) (due_all faults history (λ k f there. each (suc k) f there))

-- the history of all seats is a play
pub seats_play : (c : Configuration) (s : LockedState) (named : Option PublisherId) (parts : ℕ) (seats : List SeatState) → IsSetup c.setup → IsLocked c.setup named parts s → All (HasDueLog c.faults) seats → EachInOneLog s.history seats → IsPlay c (map event_of s.history)
seats_play c s named parts seats within is own once = record {
  answers = map answer_of s.history;
  world = world_of s.world;
  lawful = is.history.lawful;
  lawful_in_trace = lawful-bound c.setup EVENTS_MAX (map event_of s.history) (map answer_of s.history) (world_of s.world) within.events.1 is.history.lawful;
  due = due_all c.faults s.history (λ k e there. one_due c.faults s.history seats own once k e there);
}
