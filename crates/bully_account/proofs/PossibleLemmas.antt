-- Which kinds of event of a node nothing refuses.
use Rattle.std.proofs.Common.{◌≡◌, ◌≢◌, ◌↔◌, ◌∙◌, ◌<◌, ℕ, Bool, true, false, List, Option, Some, None, refl, sym, ap, subst, is_none, filter, IfOk, IfSome, Ok, Err, Result}
use Rattle.std.specs.Global.{Vec}
use Rattle.std.specs.Option.{option_map_or}
use Rattle.bully_base.specs.NodeSet.{with_node}
use Rattle.bully_base.specs.Setup.{Setup}
use Rattle.bully_table.specs.Balance.{IsBalanced}
use Rattle.bully_table.specs.Planning.{planned}
use Rattle.bully_calls.specs.declared.call.Answer.{Answer}
use Rattle.bully_steps.specs.declared.point.Point.{Point}
use Rattle.bully_steps.specs.Prepared.{prepared_from}
use Rattle.bully_steps.specs.ProcedureState.{IsPlannedOver, IsProcedureState, procedure_state}
use Rattle.bully_calls.specs.declared.event.Event.{Event}
use Rattle.bully_calls.specs.declared.event.Refused.{Refused}
use Rattle.bully_calls.specs.Events.{event_of_kind, every_event_kind, kind_of, node_of}
use Rattle.bully_world.specs.State.{IsReached, WorldState, cause_in, node_state_of, state_at, world_of}
use Rattle.bully_world.specs.Step.{Step}
use Rattle.bully_world.specs.World.{NodeState, World, pending, point, vector, with_node_state}
use Rattle.bully_world.proofs.CauseLemmas.{no_cause_if_step, step_if_no_cause}
use Rattle.bully_world.proofs.WorldIn.{node_state-world_in}
use Rattle.bully_world.proofs.TurnLemmas.{reached_fits}
use Rattle.bully_calls.specs.declared.kind.EventKind.{EventKind}
use Rattle.bully_calls.proofs.KindLemmas.{Names, names, same_event}
use Rattle.bully_account.specs.Possible.{ArePossible, IsPossible, TellsPossible, passes}

-- ---- the table that is planned

-- a procedure that was prepared and has a table is Planning, over its up set
pub prepared-over : (setup : Setup) (i g : ℕ) (p : Point) (up : List ℕ) (c : Option ℕ) (b : Bool) (table : List ℕ)
    → IsProcedureState (prepared_from None (procedure_state setup i g p up c b)) → (prepared_from None (procedure_state setup i g p up c b)).table ≡ Some table
    → IsPlannedOver setup i up table
prepared-over setup i g Point.Idle up c b table is told = absurd (cc told)
prepared-over setup i g (Point.Asking k) up c b table is told = absurd (cc told)
prepared-over setup i g (Point.Halting k) up c b table is told = absurd (cc told)
prepared-over setup i g (Point.Announcing rest) up c b table is told = absurd (cc told)
prepared-over setup i g Point.Planning up c b table is told =
    let same : planned setup None (with_node i up) ≡ table = cc told in
    subst (λ t. IsPlannedOver setup i up t) same is.plan.1
prepared-over setup i g (Point.Readying rest) up c b table is told = absurd (cc told)
prepared-over setup i g (Point.Checking k) up c b table is told = absurd (cc told)
prepared-over setup i g Point.Inquiring up c b table is told = absurd (cc told)

-- one that has none isn't Planning
pub unprepared : (setup : Setup) (i g : ℕ) (p : Point) (up : List ℕ) (c : Option ℕ) (b : Bool)
    → (prepared_from None (procedure_state setup i g p up c b)).table ≡ None → p ≢ Point.Planning
unprepared setup i g Point.Idle up c b none is = absurd (cc is)
unprepared setup i g (Point.Asking k) up c b none is = absurd (cc is)
unprepared setup i g (Point.Halting k) up c b none is = absurd (cc is)
unprepared setup i g (Point.Announcing rest) up c b none is = absurd (cc is)
unprepared setup i g Point.Planning up c b none is = absurd (cc none)
unprepared setup i g (Point.Readying rest) up c b none is = absurd (cc is)
unprepared setup i g (Point.Checking k) up c b none is = absurd (cc is)
unprepared setup i g Point.Inquiring up c b none is = absurd (cc is)

-- ---- plans that nothing refuses

none_if : (q : Option Refused) → is_none q ≡ true → q ≡ None
none_if None e = refl
none_if (Some why) e = absurd (cc e)

-- what a plan that nothing refuses needs of its node, whatever its table
plan_needs : (w : WorldState) (i : ℕ) (e : Event) → IsReached w → node_of e ≡ i → kind_of e ≡ EventKind.Plan → cause_in w e ≡ None
    → (w.events < w.setup.events_max) × (point (world_of w) i ≡ Point.Planning) × (pending (world_of w) i ≡ None)
plan_needs w i (Event.Plan j table) reached at is free =
    let (room, w', a, step) = step_if_no_cause w.setup (world_of w) w.events (Event.Plan j table) (reached_fits w reached) free in
    (room, rw (← at) step.0, rw (← at) step.1)
plan_needs w i e reached at is free = absurd (cc is)

-- a plan with a table that is balanced over the node and its up set is possible where any plan is
pub plan-possible : (w : WorldState) (i : ℕ) (table : List ℕ) (b : Bool) → IsReached w → IsPlannedOver w.setup i (node_state_of (state_at w i)).vector.up table
    → b ≡ is_none (cause_in w (Event.Plan i table)) → (b ≡ true) ↔ IsPossible w i EventKind.Plan
plan-possible w i table b reached over told =
    let balanced : IsBalanced w.setup table (with_node i (vector (world_of w) i).up) =
    subst (λ (m : NodeState). IsBalanced w.setup table (with_node i m.vector.up)) (sym (node_state-world_in w.states i)) over.balanced in
    let w' : World = with_node_state (world_of w) i (record { vector = record (vector (world_of w) i) { task = Some table }; point = Point.Readying (vector (world_of w) i).up; pending = None }) in (
      λ passed. record { event = Event.Plan i table; node = refl; is = refl; free = none_if (cause_in w (Event.Plan i table)) (sym told ∙ passed) },
      λ possible.
          let (room, at, empty) = plan_needs w i possible.event reached possible.node possible.is possible.free in
          let step : Step w.setup (world_of w) (Event.Plan i table) w' Answer.Done = (at, empty, over.partitions, balanced, refl, refl) in
          told ∙ ap (λ (q : Option Refused). is_none q) (no_cause_if_step w.setup (world_of w) w.events (Event.Plan i table) w' Answer.Done (reached_fits w reached) room step),
    )

-- where the node isn't Planning, no plan is possible
pub no-plan : (w : WorldState) (i : ℕ) → IsReached w → (state_at w i).point ≢ Point.Planning → (false ≡ true) ↔ IsPossible w i EventKind.Plan
no-plan w i reached other = (
  λ e. absurd (cc e),
  λ possible.
      let needs = plan_needs w i possible.event reached possible.node possible.is possible.free in
      absurd (other (sym (ap (λ (m : NodeState). m.point) (node_state-world_in w.states i)) ∙ needs.1)),
)

-- ---- all kinds of event

-- the only event of this kind has no cause exactly if the kind is possible
plain : (w : WorldState) (i : ℕ) (event_kind : EventKind) (e : Event) → node_of e ≡ i → kind_of e ≡ event_kind → ((f : Event) → node_of f ≡ i → kind_of f ≡ event_kind → f ≡ e)
    → (is_none (cause_in w e) ≡ true) ↔ IsPossible w i event_kind
plain w i event_kind e at is only = (
  λ passed. record { event = e; node = at; is = is; free = none_if (cause_in w e) passed },
  λ possible. ap (λ (q : Option Refused). is_none q) (subst (λ (f : Event). cause_in w f ≡ None) (only possible.event possible.node possible.is) possible.free),
)

tells : (w : WorldState) (i : ℕ) (can : Bool) → ((can ≡ true) ↔ IsPossible w i EventKind.Plan) → TellsPossible w i (λ event_kind. passes w i can event_kind)
tells w i can plan event_kind = by_name (event_of_kind event_kind i) refl (names event_kind i)
  where
    by_name : (o : Option Event) → event_of_kind event_kind i ≡ o → Names event_kind i o → (option_map_or (λ e. is_none (cause_in w e)) o can ≡ true) ↔ IsPossible w i event_kind
    by_name None at is = subst (λ d. (can ≡ true) ↔ IsPossible w i d) (sym is) plan
    by_name (Some e) at is = plain w i event_kind e is.0 is.1 (λ f node same. subst (λ o. IfSome o (λ x. f ≡ x)) at (same_event i event_kind f node same))

-- the kinds of event that pass are those that are possible
passing-possible : (w : WorldState) (i : ℕ) (can : Bool) (event_kinds : List EventKind) → ((can ≡ true) ↔ IsPossible w i EventKind.Plan)
    → event_kinds ≡ filter (λ event_kind. passes w i can event_kind) every_event_kind → ArePossible w i event_kinds
passing-possible w i can event_kinds plan listed = (λ event_kind. passes w i can event_kind, tells w i can plan, listed)

-- the same of what a call gave, which may be that memory is short
pub passing-listed : {E : Type 0} (w : WorldState) (i : ℕ) (can : Bool) (r : Result (Vec EventKind) E) → ((can ≡ true) ↔ IsPossible w i EventKind.Plan)
    → IfOk r (λ event_kinds. event_kinds.items ≡ filter (λ event_kind. passes w i can event_kind) every_event_kind) → IfOk r (λ event_kinds. ArePossible w i event_kinds.items)
passing-listed w i can (Ok event_kinds) plan listed = passing-possible w i can event_kinds.items plan listed
passing-listed w i can (Err short) plan listed = tt
