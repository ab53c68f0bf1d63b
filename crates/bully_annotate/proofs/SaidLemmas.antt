-- What is said of an event that is possible is so, and what is shown behind it is true: so rows with everything said are as lawful.
use Rattle.std.proofs.Common.{◌≡◌, ◌≢◌, ◌∙◌, ℕ, ◌+◌, ◌++◌, ◌&&◌, Bool, true, false, List, [], ◌∷◌, Option, Some, None, MatchOption, if◌then◌else◌, length, refl, sym, ap, subst, arith, option_map, length-append}
use Rattle.std.specs.Bool.{MatchBool}
use Rattle.std.proofs.lemmas.Bool.{and_from}
use Rattle.std.proofs.lemmas.Bool.Decides.{nat_tests}
use Rattle.std.proofs.lemmas.Option.{same_Some}
use Rattle.bully_base.specs.NodeSetEq.{same_set}
use Rattle.bully_base.specs.Setup.{IsNode, Setup, is_node}
use Rattle.bully_base.specs.declared.node.Status.TheVariants.{Down}
use Rattle.bully_calls.specs.declared.call.Answer.{Answer}
use Rattle.bully_calls.specs.declared.call.Call.{Call}
use Rattle.bully_calls.specs.Pending.{Pending}
use Rattle.bully_calls.specs.declared.event.Event.{Event}
use Rattle.bully_calls.specs.declared.event.Refused.{Refused}
use Rattle.bully_calls.specs.declared.kind.EventKind.{EventKind}
use Rattle.bully_calls.specs.declared.kind.NodeEventKind.{NodeEventKind}
use Rattle.bully_calls.specs.declared.kind.Saying.{Saying}
use Rattle.bully_calls.specs.Events.{event_at, kind_of, node_of, node_saying}
use Rattle.bully_handlers.specs.Handler.{reply}
use Rattle.bully_steps.specs.declared.point.Point.{Point}
use Rattle.bully_steps.specs.declared.point.Want.{Want}
use Rattle.bully_steps.specs.Point.{offered}
use Rattle.bully_calls.proofs.KindLemmas.{same_event}
use Rattle.bully_world.specs.Cause.{cause}
use Rattle.bully_world.specs.Lawful.{IsLawful}
use Rattle.bully_world.specs.NodeInvariant.{SuitsPending, WorldInvariant}
use Rattle.bully_world.specs.Step.{Step, offer}
use Rattle.bully_world.specs.StepOf.{step_of}
use Rattle.bully_world.specs.Turn.{same_node}
use Rattle.bully_world.specs.World.{World, first_world, node_state, pending, vector}
use Rattle.bully_world.proofs.ApplyLemmas.{node_in_setup, room_of}
use Rattle.bully_world.proofs.CallInvariant.{start_fits}
use Rattle.bully_world.proofs.LawfulLemmas.{lawful_more}
use Rattle.bully_world.proofs.NodeInvariantLemmas.{lawful_fits}
use Rattle.bully_world.proofs.StepOfLemmas.{step_is_computed}
use Rattle.bully_rows.specs.declared.detail.Detail.{Detail}
use Rattle.bully_rows.specs.declared.detail.DetailedEvent.{DetailedEvent}
use Rattle.bully_rows.specs.declared.trace.Claim.{Claim}
use Rattle.bully_rows.specs.declared.trace.Row.{Row}
use Rattle.bully_trace.specs.declared.verdict.Verdict.{Verdict}
use Rattle.bully_rows.specs.EventsTold.{answered, event_of_detailed, unanswered}
use Rattle.bully_rows.proofs.ToldRows.{found, made}
use Rattle.bully_trace.specs.Details.{brought, call_at, is_said, is_so, is_true, is_whole, offered_call, said_at, said_by, said_of, same_answers, same_call, same_status, same_task, says}
use Rattle.bully_rows.specs.Trace.{Trace}
use Rattle.bully_trace.specs.Verdict.{IsJudged, IsVerdict}
use Rattle.bully_rows.specs.Whole.{Whole, whole_of}
use Rattle.bully_trace.proofs.SameLemmas.{answers-itself, call-itself, is-node, status-itself, task-itself}
use Rattle.bully_annotate.specs.Annotated.{annotated, event_rows, rows_said, said_row, same_vector, shown_change, shown_row}
use Rattle.bully_world.specs.Place.{callee_or, place_of}
use Rattle.bully_world.proofs.AgreeLemmas.{node_itself}

-- ---- what is shown is true

pub set-itself : (s : List ℕ) → (same_set s s && true) ≡ true
set-itself s = grind (arith, nat_tests)

pub shown-true : (setup : Setup) (w : World) (i : ℕ) → IsNode setup i → is_whole setup w (whole_of i (vector w i)) ≡ true
shown-true setup w i node =
    let v = vector w i in
    rw (is-node setup i node, status-itself v.status, node_itself v.coordinator, node_itself v.halter, task-itself v.task) (set-itself v.up)

-- ---- what is said is so

-- the call in a slot is to a node
callee-node : (setup : Setup) (w : World) (i : ℕ) (c : Pending) → WorldInvariant setup w → pending w i ≡ Some c → IsNode setup c.call.callee
callee-node setup w i c fits there = by_pending (pending w i) there (fits.fits i).by_call
  where
    by_pending : (q : Option Pending) → q ≡ Some c → SuitsPending setup i (node_state w i).vector (node_state w i).point q → IsNode setup c.call.callee
    by_pending None is suits = absurd (cc is)
    by_pending (Some d) is suits = let same : d ≡ c = cc is in subst (λ (d : Pending). IsNode setup d.call.callee) same suits.to_node

-- what is said is of this event, and is so
abbrev pub IsSaid : Setup → World → Event → DetailedEvent → Type 0
IsSaid setup w e d = (event_of_detailed d ≡ e) × (is_so setup w d ≡ true)

pub slot-node : (setup : Setup) (w : World) (i : ℕ) (call : Call) → WorldInvariant setup w → call_at w i ≡ Some call → IsNode setup call.callee
slot-node setup w i call fits there = by_pending (pending w i) refl there
  where
    by_pending : (q : Option Pending) → pending w i ≡ q → option_map (λ (c : Pending). c.call) q ≡ Some call → IsNode setup call.callee
    by_pending None at is = absurd (cc is)
    by_pending (Some c) at is = subst (λ (k : Call). IsNode setup k.callee) (same_Some c.call call is) (callee-node setup w i c fits at)

so-node : (setup : Setup) (w : World) (i : ℕ) (d : Detail) → IsNode setup i → IsNode setup d.call.callee → says setup w i d ≡ true
    → is_so setup w (record { node = i; detail = d }) ≡ true
so-node setup w i d node callee so = rw (is-node setup i node, is-node setup d.call.callee callee, so) refl

-- the call that a point offers is to a node
offered-node : (setup : Setup) (w : World) (i : ℕ) (call : Call) → WorldInvariant setup w → offered_call (offer setup w i) ≡ Some call → IsNode setup call.callee
offered-node setup w i call fits there = by_want (offer setup w i) refl there
  where
    up : (c : Call) → offer setup w i ≡ Want.Start c → (node_state w i).vector.status ≢ Down
    up c offers down =
        let idle : offered setup (node_state w i).vector.coordinator Point.Idle ≡ Want.Start c =
        subst (λ p. offered setup (node_state w i).vector.coordinator p ≡ Want.Start c) ((fits.fits i).down_idle down) offers in
        cc idle

    by_want : (want : Want) → offer setup w i ≡ want → offered_call want ≡ Some call → IsNode setup call.callee
    by_want (Want.Start c) offers at =
        subst (λ (k : Call). IsNode setup k.callee) (same_Some c call at) (start_fits setup i (node_state w i) c (fits.fits i) (up c offers) offers).by_call.to_node
    by_want Want.Nothing offers at = absurd (cc at)
    by_want Want.Move offers at = absurd (cc at)
    by_want Want.Plan offers at = absurd (cc at)
    by_want Want.Await offers at = absurd (cc at)

-- what there is to say of an event is of its kind, and of a call to a node
abbrev IsOfKind : Setup → NodeEventKind → Detail → Type 0
IsOfKind setup kind d = (d.kind ≡ kind) × IsNode setup d.call.callee

said-of-kind : (setup : Setup) (w : World) (i : ℕ) (saying : Saying) (kind : NodeEventKind) (d : Detail) → WorldInvariant setup w → said_by saying kind setup w i ≡ Some d
    → IsOfKind setup kind d
said-of-kind setup w i Saying.Nothing kind d fits is = absurd (cc is)
said-of-kind setup w i Saying.Offered kind d fits is =
    let (call, at, same) = made (unanswered kind) (offered_call (offer setup w i)) d is in
    subst (IsOfKind setup kind) same (refl, offered-node setup w i call fits at)
said-of-kind setup w i Saying.Held kind d fits is =
    let (call, at, same) = made (unanswered kind) (call_at w i) d is in
    subst (IsOfKind setup kind) same (refl, slot-node setup w i call fits at)
said-of-kind setup w i Saying.Replied kind d fits is =
    let (call, at, same) = made (λ call. answered kind call (reply call.kind (vector w call.callee))) (call_at w i) d is in
    subst (IsOfKind setup kind) same (refl, slot-node setup w i call fits at)
said-of-kind setup w i Saying.Brought kind d fits is =
    let (c, at, next) = found (λ (c : Pending). option_map (answered kind c.call) (brought c)) (pending w i) d is in
    let (a, brings, same) = made (answered kind c.call) (brought c) d next in
    subst (IsOfKind setup kind) same (refl, callee-node setup w i c fits at)

said-itself : (d : Detail) → is_said (Some d) d ≡ true
said-itself d = and_from (same_call d.call d.call) (same_answers d.answer d.answer) (call-itself d.call) (answers-itself d.answer)

-- what there is to say of an event is of it, and is so
pub said-so : (setup : Setup) (w : World) (e : Event) (d : DetailedEvent) → WorldInvariant setup w → IsNode setup (node_of e) → said_of setup w e ≡ Some d → IsSaid setup w e d
said-so setup w e d fits node is = by_kind (kind_of e) refl is
  where
    by_kind : (event_kind : EventKind) → kind_of e ≡ event_kind → said_at event_kind setup w (node_of e) ≡ Some d → IsSaid setup w e d
    by_kind EventKind.Plan of is = absurd (cc is)
    by_kind (EventKind.Node kind) of is =
        let (said, there, same) = made {B = DetailedEvent} (λ x. record { node = node_of e; detail = x }) (said_by (node_saying kind) kind setup w (node_of e)) d is in
        let (its, callee) = said-of-kind setup w (node_of e) (node_saying kind) kind said fits there in
        let named : e ≡ event_at kind (node_of e) = same_event (node_of e) (EventKind.Node kind) e refl of in
        let here : is_said (said_by (node_saying kind) kind setup w (node_of e)) said ≡ true = subst (λ o. is_said o said ≡ true) (sym there) (said-itself said) in
        let so : says setup w (node_of e) said ≡ true = subst (λ k. is_said (said_by (node_saying k) k setup w (node_of e)) said ≡ true) (sym its) here in
        subst (IsSaid setup w e) same (ap (λ k. event_at k (node_of e)) its ∙ sym named, so-node setup w (node_of e) said node callee so)

-- ---- where an event takes place is a node

pub place-node : (setup : Setup) (w : World) (e : Event) → WorldInvariant setup w → IsNode setup (node_of e) → IsNode setup (place_of w e)
place-node setup w (Event.Run i) fits node = by_call (call_at w i) refl
  where
    by_call : (there : Option Call) → call_at w i ≡ there → IsNode setup (callee_or i there)
    by_call None at = node
    by_call (Some call) at = slot-node setup w i call fits at
place-node setup w e fits node = node

-- ---- rows with everything said are as lawful

-- rows that are judged so, whatever number the first one has
abbrev AreLawful : Setup → World → ℕ → List Row → ℕ → World → Type 0
AreLawful setup w count rows after w' = (number : ℕ) → IsJudged setup w count number rows (Verdict.Lawful after) w'

-- behind a vector that is shown
behind-shown : (setup : Setup) (w : World) (count i : ℕ) (rows : List Row) (after : ℕ) (w' : World) → IsNode setup i
    → AreLawful setup w count rows after w' → AreLawful setup w count (shown_row w i ∷ rows) after w'
behind-shown setup w count i rows after w' node more number = rw (shown-true setup w i node) (more (number + 1))

behind-change : (setup : Setup) (w mid : World) (count i : ℕ) (rows : List Row) (after : ℕ) (w' : World) → IsNode setup i
    → AreLawful setup mid count rows after w' → AreLawful setup mid count (shown_change w mid i ++ rows) after w'
behind-change setup w mid count i rows after w' node more = by_test (same_vector (vector w i) (vector mid i))
  where
    by_test : (same : Bool) → AreLawful setup mid count ((if same then [] else shown_row mid i ∷ []) ++ rows) after w'
    by_test true = more
    by_test false = behind-shown setup mid count i rows after w' node more

-- behind an event that is possible, with what is said of it
behind-said : (setup : Setup) (w mid : World) (count : ℕ) (e : Event) (a : Answer) (said : Option DetailedEvent) (rows : List Row) (after : ℕ) (w' : World)
    → cause setup w count e ≡ None → Step setup w e mid a → ((d : DetailedEvent) → said ≡ Some d → IsSaid setup w e d)
    → AreLawful setup mid (count + 1) rows after w' → AreLawful setup w count (said_row e said ∷ rows) after w'
behind-said setup w mid count e a None rows after w' none step so more number = rw none (mid, a, step, more (number + 1))
behind-said setup w mid count e a (Some d) rows after w' none step so more number =
    let (of, is) = so d refl in
    let free : cause setup w count (event_of_detailed d) ≡ None = rw of none in
    rw (free, is) (mid, a, rw of step, more (number + 1))

-- a reached world, with as many events as were counted
abbrev pub IsReachedBy : Setup → World → ℕ → Type 0
IsReachedBy setup w count = (events : List Event) × (answers : List Answer) × IsLawful setup events answers w × (length events ≡ count)

pub reached-more : (setup : Setup) (w mid : World) (count : ℕ) (e : Event) (a : Answer) → cause setup w count e ≡ None → Step setup w e mid a
    → IsReachedBy setup w count → IsReachedBy setup mid (count + 1)
reached-more setup w mid count e a none step (events, answers, lawful, counted) =
    let room = room_of setup w count e none in (
      events ++ e ∷ [],
      answers ++ a ∷ [],
      lawful_more setup events answers w e a mid lawful (omega (arith, counted, room)) step,
      omega (arith, length-append events (e ∷ []), counted),
    )

-- an event that is possible, and then rows that are as lawful with everything said
event-lawful : (setup : Setup) (w mid : World) (count : ℕ) (e : Event) (a : Answer) (rows : List Row) (after : ℕ) (w' : World) → IsReachedBy setup w count
    → cause setup w count e ≡ None → Step setup w e mid a → AreLawful setup mid (count + 1) rows after w'
    → AreLawful setup w count (event_rows setup w e mid ++ rows) after w'
event-lawful setup w mid count e a rows after w' (events, answers, lawful, counted) none step more =
    let fits = lawful_fits setup events answers w lawful in
    let node = node_in_setup setup w count e none in
    behind-said setup w mid count e a (said_of setup w e) (shown_change w mid (place_of w e) ++ rows) after w' none step
    (λ d is. said-so setup w e d fits node is)
    (behind-change setup w mid (count + 1) (place_of w e) rows after w' (place-node setup w e fits node) more)

pub said-event : (setup : Setup) (w mid : World) (e : Event) (a : Answer) (rows : List Row) → Step setup w e mid a
    → (elim (step_of setup w e) as (λ _. List Row) [ None ↦ [] | Some r ↦ event_rows setup w e r.0 ++ rows_said setup r.0 rows ]) ≡ event_rows setup w e mid ++ rows_said setup mid rows
said-event setup w mid e a rows step = rw ((step_is_computed setup w e mid a).1 step) refl

-- a true claim is of a node
pub claim-node : (setup : Setup) (w : World) (c : Claim) → is_true setup w c ≡ true → IsNode setup c.node
claim-node setup w c holds = by_node (is_node setup c.node) refl holds
  where
    by_node : (b : Bool) → is_node setup c.node ≡ b → (b && same_status c.status (vector w c.node).status && same_node c.coordinator (vector w c.node).coordinator) ≡ true → IsNode setup c.node
    by_node true node holds = grind (arith, nat_tests, node)
    by_node false node holds = absurd (cc holds)

pub whole-claim : (setup : Setup) (w : World) (whole : Whole) → is_whole setup w whole ≡ true → is_true setup w whole.claim ≡ true
whole-claim setup w whole holds = by_claim (is_true setup w whole.claim) refl holds
  where
    by_claim : (b : Bool) → is_true setup w whole.claim ≡ b → (b && same_node (vector w whole.claim.node).halter whole.halter && same_set (vector w whole.claim.node).up whole.up && same_task (vector w whole.claim.node).task whole.task) ≡ true → is_true setup w whole.claim ≡ true
    by_claim true at holds = at
    by_claim false at holds = absurd (cc holds)

-- rows that are lawful are as lawful with everything said
pub rows-lawful : (setup : Setup) (w : World) (count number : ℕ) (rows : List Row) (after : ℕ) (w' : World) → IsReachedBy setup w count
    → IsJudged setup w count number rows (Verdict.Lawful after) w' → AreLawful setup w count (rows_said setup w rows) after w'
rows-lawful setup w count number [] after w' reached j = λ _. j
rows-lawful setup w count number (Row.Event e ∷ rows) after w' reached j = by_cause (cause setup w count e) refl j (λ mid. rows-lawful setup mid (count + 1) (number + 1) rows after w')
  where
    by_cause : (q : Option Refused) → cause setup w count e ≡ q
        → MatchOption q ((mid : World) × (a : Answer) × Step setup w e mid a × IsJudged setup mid (count + 1) (number + 1) rows (Verdict.Lawful after) w') (λ why. (Verdict.Lawful after ≡ Verdict.Refused number why) × (w' ≡ w))
        → ((mid : World) → IsReachedBy setup mid (count + 1) → IsJudged setup mid (count + 1) (number + 1) rows (Verdict.Lawful after) w' → AreLawful setup mid (count + 1) (rows_said setup mid rows) after w')
        → AreLawful setup w count (rows_said setup w (Row.Event e ∷ rows)) after w'
    by_cause None none (mid, a, step, j) more =
        subst (λ all. AreLawful setup w count all after w') (sym (said-event setup w mid e a rows step))
        (event-lawful setup w mid count e a (rows_said setup mid rows) after w' reached none step (more mid (reached-more setup w mid count e a none step reached) j))
    by_cause (Some why) is j more = absurd (cc j.0)
rows-lawful setup w count number (Row.Detailed d ∷ rows) after w' reached j = by_cause (cause setup w count (event_of_detailed d)) (is_so setup w d) refl j (λ mid. rows-lawful setup mid (count + 1) (number + 1) rows after w')
  where
    by_cause : (q : Option Refused) (so : Bool) → cause setup w count (event_of_detailed d) ≡ q
        → MatchOption q (MatchBool so ((mid : World) × (a : Answer) × Step setup w (event_of_detailed d) mid a × IsJudged setup mid (count + 1) (number + 1) rows (Verdict.Lawful after) w')
        ((Verdict.Lawful after ≡ Verdict.Differs number) × (w' ≡ w))) (λ why. (Verdict.Lawful after ≡ Verdict.Refused number why) × (w' ≡ w))
        → ((mid : World) → IsReachedBy setup mid (count + 1) → IsJudged setup mid (count + 1) (number + 1) rows (Verdict.Lawful after) w' → AreLawful setup mid (count + 1) (rows_said setup mid rows) after w')
        → AreLawful setup w count (rows_said setup w (Row.Detailed d ∷ rows)) after w'
    by_cause None true none (mid, a, step, j) more =
        subst (λ all. AreLawful setup w count all after w') (sym (said-event setup w mid (event_of_detailed d) a rows step))
        (event-lawful setup w mid count (event_of_detailed d) a (rows_said setup mid rows) after w' reached none step (more mid (reached-more setup w mid count (event_of_detailed d) a none step reached) j))
    by_cause None false none j more = absurd (cc j.0)
    by_cause (Some why) so is j more = absurd (cc j.0)
rows-lawful setup w count number (Row.Claim c ∷ rows) after w' reached j = by_claim (is_true setup w c) refl j (rows-lawful setup w count (number + 1) rows after w' reached)
  where
    by_claim : (b : Bool) → is_true setup w c ≡ b → MatchBool b (IsJudged setup w count (number + 1) rows (Verdict.Lawful after) w') ((Verdict.Lawful after ≡ Verdict.Differs number) × (w' ≡ w))
        → (IsJudged setup w count (number + 1) rows (Verdict.Lawful after) w' → AreLawful setup w count (rows_said setup w rows) after w')
        → AreLawful setup w count (shown_row w c.node ∷ rows_said setup w rows) after w'
    by_claim true holds j more = behind-shown setup w count c.node (rows_said setup w rows) after w' (claim-node setup w c holds) (more j)
    by_claim false holds j more = absurd (cc j.0)
rows-lawful setup w count number (Row.Whole whole ∷ rows) after w' reached j = by_claim (is_whole setup w whole) refl j (rows-lawful setup w count (number + 1) rows after w' reached)
  where
    by_claim : (b : Bool) → is_whole setup w whole ≡ b → MatchBool b (IsJudged setup w count (number + 1) rows (Verdict.Lawful after) w') ((Verdict.Lawful after ≡ Verdict.Differs number) × (w' ≡ w))
        → (IsJudged setup w count (number + 1) rows (Verdict.Lawful after) w' → AreLawful setup w count (rows_said setup w rows) after w')
        → AreLawful setup w count (shown_row w whole.claim.node ∷ rows_said setup w rows) after w'
    by_claim true holds j more = behind-shown setup w count whole.claim.node (rows_said setup w rows) after w' (claim-node setup w whole.claim (whole-claim setup w whole holds)) (more j)
    by_claim false holds j more = absurd (cc j.0)

-- the annotated trace is as lawful as the one that it is made of
pub annotated-lawful : (trace : Trace) (after : ℕ) (w' : World) → IsVerdict trace (Verdict.Lawful after) w' → IsVerdict (annotated trace) (Verdict.Lawful after) w'
annotated-lawful trace after w' v =
    rows-lawful trace.setup (first_world trace.setup) 0 2 trace.rows after w' ([], [], record { leads = refl; bounded = omega arith }, refl) v 2
