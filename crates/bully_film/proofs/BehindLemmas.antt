-- The world behind the first rows of a trace, and which nodes a row leaves as they were.
use Rattle.std.proofs.Common.{◌≡◌, ◌≢◌, ◌∙◌, ℕ, ◌+◌, ◌<◌, ◌++◌, Bool, true, false, List, [], ◌∷◌, Option, Some, None, MatchOption, if◌then◌else◌, refl, sym, ap, subst, arith}
use Rattle.std.specs.Prelude.{option_map}
use Rattle.std.specs.Bool.{MatchBool}
use Rattle.bully_base.specs.Setup.{Setup}
use Rattle.bully_calls.specs.declared.call.Answer.{Answer}
use Rattle.bully_calls.specs.Pending.{Pending}
use Rattle.bully_calls.specs.declared.event.Event.{Event}
use Rattle.bully_calls.specs.declared.event.Refused.{Refused}
use Rattle.bully_calls.specs.Events.{kind_of, node_of}
use Rattle.bully_calls.proofs.KindLemmas.{kind-node}
use Rattle.bully_world.specs.Cause.{cause}
use Rattle.bully_world.specs.NodeInvariant.{WorldInvariant}
use Rattle.bully_base.proofs.PlaceLemmas.{at_node_past}
use Rattle.bully_world.specs.State.{IsReached, WorldState, world_of}
use Rattle.bully_world.specs.Step.{Step}
use Rattle.bully_world.specs.StepOf.{StepResult, step_of}
use Rattle.bully_world.specs.World.{World, empty_node_state, first_world, node_state}
use Rattle.bully_world.proofs.Events.{own_other}
use Rattle.bully_world.proofs.NodeInvariantLemmas.{first_fits, lawful_fits, step_fits}
use Rattle.bully_world.proofs.RunInvariant.{ran_other}
use Rattle.bully_world.proofs.StepOfLemmas.{computed_steps, step_is_computed, step_is_one}
use Rattle.bully_rows.specs.declared.trace.Row.{Row}
use Rattle.bully_rows.specs.declared.detail.DetailedEvent.{DetailedEvent}
use Rattle.bully_rows.specs.EventsTold.{event_of_detailed}
use Rattle.bully_trace.specs.declared.verdict.Verdict.{Verdict}
use Rattle.bully_trace.specs.Details.{is_so, is_true, is_whole}
use Rattle.bully_world.specs.Place.{callee_or}
use Rattle.bully_trace.specs.Judging.{HasJudged, JudgeState}
use Rattle.bully_trace.specs.Verdict.{IsJudged}
use Rattle.bully_trace.proofs.JudgeLemmas.{judged-all}
use Rattle.bully_film.specs.Film.{decided, deciding}
use Rattle.bully_film.specs.Behind.{LeadsBehind, decides, next_count, next_world, stepped, taken, world_behind}
use Rattle.bully_film.specs.Scene.{event_kind_in, node_in, place_at, seen_of, snapshot}

-- ---- rows that are judged lead to it

step-is : (setup : Setup) (w : World) (e : Event) (mid : World) (a : Answer) → Step setup w e mid a → stepped setup w e ≡ mid
step-is setup w e mid a step = rw (stepped, (step_is_computed setup w e mid a).1 step) refl

-- behind an event, where more is known of the world behind it
event-leads : (setup : Setup) (w mid : World) (e : Event) (count number : ℕ) (rows : List Row) (verdict : Verdict) (w' : World) (a : Answer) → Step setup w e mid a
    → w' ≡ taken setup mid (count + 1) rows → w' ≡ taken setup (stepped setup w e) (count + 1) rows
event-leads setup w mid e count number rows verdict w' a step is = subst (λ m. w' ≡ taken setup m (count + 1) rows) (sym (step-is setup w e mid a step)) is

pub leads : (setup : Setup) (w : World) (count number : ℕ) (rows : List Row) (verdict : Verdict) (w' : World) → IsJudged setup w count number rows verdict w' → w' ≡ taken setup w count rows
leads setup w count number [] verdict w' j = j.1
leads setup w count number (Row.Event e ∷ rows) verdict w' j = by_cause (cause setup w count e) refl j (λ mid. leads setup mid (count + 1) (number + 1) rows verdict w')
  where
    by_cause : (q : Option Refused) → cause setup w count e ≡ q
        → MatchOption q ((mid : World) × (a : Answer) × Step setup w e mid a × IsJudged setup mid (count + 1) (number + 1) rows verdict w') (λ why. (verdict ≡ Verdict.Refused number why) × (w' ≡ w))
        → ((mid : World) → IsJudged setup mid (count + 1) (number + 1) rows verdict w' → w' ≡ taken setup mid (count + 1) rows)
        → w' ≡ taken setup w count (Row.Event e ∷ rows)
    by_cause None none (mid, a, step, j) more = rw none (event-leads setup w mid e count number rows verdict w' a step (more mid j))
    by_cause (Some why) is j more = rw is (j.1)
leads setup w count number (Row.Detailed d ∷ rows) verdict w' j = by_cause (cause setup w count (event_of_detailed d)) (is_so setup w d) refl refl j (λ mid. leads setup mid (count + 1) (number + 1) rows verdict w')
  where
    by_cause : (q : Option Refused) (so : Bool) → cause setup w count (event_of_detailed d) ≡ q → is_so setup w d ≡ so
        → MatchOption q (MatchBool so ((mid : World) × (a : Answer) × Step setup w (event_of_detailed d) mid a × IsJudged setup mid (count + 1) (number + 1) rows verdict w')
        ((verdict ≡ Verdict.Differs number) × (w' ≡ w))) (λ why. (verdict ≡ Verdict.Refused number why) × (w' ≡ w))
        → ((mid : World) → IsJudged setup mid (count + 1) (number + 1) rows verdict w' → w' ≡ taken setup mid (count + 1) rows)
        → w' ≡ taken setup w count (Row.Detailed d ∷ rows)
    by_cause None true none so (mid, a, step, j) more = rw (none, so) (event-leads setup w mid (event_of_detailed d) count number rows verdict w' a step (more mid j))
    by_cause None false none so j more = rw (none, so) (j.1)
    by_cause (Some why) so is at j more = rw is (j.1)
leads setup w count number (Row.Claim claim ∷ rows) verdict w' j = by_claim (is_true setup w claim) refl j (leads setup w count (number + 1) rows verdict w')
  where
    by_claim : (b : Bool) → is_true setup w claim ≡ b → MatchBool b (IsJudged setup w count (number + 1) rows verdict w') ((verdict ≡ Verdict.Differs number) × (w' ≡ w))
        → (IsJudged setup w count (number + 1) rows verdict w' → w' ≡ taken setup w count rows) → w' ≡ taken setup w count (Row.Claim claim ∷ rows)
    by_claim true is j more = rw is (more j)
    by_claim false is j more = rw is (j.1)
leads setup w count number (Row.Whole whole ∷ rows) verdict w' j = by_claim (is_whole setup w whole) refl j (leads setup w count (number + 1) rows verdict w')
  where
    by_claim : (b : Bool) → is_whole setup w whole ≡ b → MatchBool b (IsJudged setup w count (number + 1) rows verdict w') ((verdict ≡ Verdict.Differs number) × (w' ≡ w))
        → (IsJudged setup w count (number + 1) rows verdict w' → w' ≡ taken setup w count rows) → w' ≡ taken setup w count (Row.Whole whole ∷ rows)
    by_claim true is j more = rw is (more j)
    by_claim false is j more = rw is (j.1)

pub leads-behind : LeadsBehind
leads-behind setup rows verdict w j = leads setup (first_world setup) 0 2 rows verdict w j

-- the judge's world is the one behind the rows that it took
pub judged-world : (setup : Setup) (rows : List Row) (judge : JudgeState) → HasJudged setup rows judge → world_of judge.world ≡ world_behind setup rows
judged-world setup rows judge judged = by_stop judge.stopped refl
  where
    by_stop : (stopped : Option Verdict) → judge.stopped ≡ stopped → world_of judge.world ≡ world_behind setup rows
    by_stop None is = leads-behind setup rows (Verdict.Lawful judge.world.events) (world_of judge.world)
        (judged-all setup rows judge (Verdict.Lawful judge.world.events) (world_of judge.world) (rw is (refl, refl)) judged)
    by_stop (Some verdict) is = leads-behind setup rows verdict (world_of judge.world)
        (judged-all setup rows judge verdict (world_of judge.world) (rw is (refl, refl)) judged)

-- ---- rows come to one verdict

-- behind an event that is possible
one-behind : (setup : Setup) (w : World) (e : Event) (count number : ℕ) (rows : List Row) (verdict verdict' : Verdict) (u u' : World)
    → ((mid : World) → IsJudged setup mid count number rows verdict u → IsJudged setup mid count number rows verdict' u' → verdict ≡ verdict')
    → (mid : World) × (a : Answer) × Step setup w e mid a × IsJudged setup mid count number rows verdict u
    → (mid : World) × (a : Answer) × Step setup w e mid a × IsJudged setup mid count number rows verdict' u'
    → verdict ≡ verdict'
one-behind setup w e count number rows verdict verdict' u u' more (mid, a, step, j) (mid', a', step', j') =
    more mid j (subst (λ m. IsJudged setup m count number rows verdict' u') (step_is_one setup w e mid mid' a a' step step').0 j')

-- at a row that may differ
one-or-differs : {A B : Type 0} (so : Bool) (w u u' : World) (number : ℕ) (verdict verdict' : Verdict) → (A → B → verdict ≡ verdict')
    → MatchBool so A ((verdict ≡ Verdict.Differs number) × (u ≡ w)) → MatchBool so B ((verdict' ≡ Verdict.Differs number) × (u' ≡ w))
    → verdict ≡ verdict'
one-or-differs true w u u' number verdict verdict' more j j' = more j j'
one-or-differs false w u u' number verdict verdict' more j j' = j.0 ∙ sym j'.0

-- at a row whose event may be refused
one-or-refused : {A B : Type 0} (why : Option Refused) (w u u' : World) (number : ℕ) (verdict verdict' : Verdict) → (A → B → verdict ≡ verdict')
    → MatchOption why A (λ why. (verdict ≡ Verdict.Refused number why) × (u ≡ w)) → MatchOption why B (λ why. (verdict' ≡ Verdict.Refused number why) × (u' ≡ w))
    → verdict ≡ verdict'
one-or-refused None w u u' number verdict verdict' more j j' = more j j'
one-or-refused (Some why) w u u' number verdict verdict' more j j' = j.0 ∙ sym j'.0

one-verdict : (setup : Setup) (w : World) (count number : ℕ) (rows : List Row) (verdict verdict' : Verdict) (u u' : World)
    → IsJudged setup w count number rows verdict u → IsJudged setup w count number rows verdict' u' → verdict ≡ verdict'
one-verdict setup w count number [] verdict verdict' u u' j j' = j.0 ∙ sym j'.0
one-verdict setup w count number (Row.Event e ∷ rows) verdict verdict' u u' j j' =
    one-or-refused (cause setup w count e) w u u' number verdict verdict'
    (one-behind setup w e (count + 1) (number + 1) rows verdict verdict' u u' (λ mid. one-verdict setup mid (count + 1) (number + 1) rows verdict verdict' u u')) j j'
one-verdict setup w count number (Row.Detailed d ∷ rows) verdict verdict' u u' j j' =
    one-or-refused (cause setup w count (event_of_detailed d)) w u u' number verdict verdict'
    (one-or-differs (is_so setup w d) w u u' number verdict verdict'
    (one-behind setup w (event_of_detailed d) (count + 1) (number + 1) rows verdict verdict' u u' (λ mid. one-verdict setup mid (count + 1) (number + 1) rows verdict verdict' u u'))) j j'
one-verdict setup w count number (Row.Claim claim ∷ rows) verdict verdict' u u' j j' =
    one-or-differs (is_true setup w claim) w u u' number verdict verdict' (one-verdict setup w count (number + 1) rows verdict verdict' u u') j j'
one-verdict setup w count number (Row.Whole whole ∷ rows) verdict verdict' u u' j j' =
    one-or-differs (is_whole setup w whole) w u u' number verdict verdict' (one-verdict setup w count (number + 1) rows verdict verdict' u u') j j'

-- the row of the verdict is that at which the judge stopped
pub decided-told : (setup : Setup) (rows : List Row) (judge : JudgeState) (verdict : Verdict) (w : World) → HasJudged setup rows judge
    → IsJudged setup (first_world setup) 0 2 rows verdict w → deciding verdict ≡ decided judge.stopped
decided-told setup rows judge verdict w judged told = by_stop judge.stopped refl
  where
    one : (verdict' : Verdict) (w' : World) → IsJudged setup (first_world setup) 0 2 rows verdict' w' → verdict ≡ verdict'
    one verdict' w' judged' = one-verdict setup (first_world setup) 0 2 rows verdict verdict' w w' told judged'

    by_stop : (stopped : Option Verdict) → judge.stopped ≡ stopped → deciding verdict ≡ decided stopped
    by_stop None is = ap deciding (one (Verdict.Lawful judge.world.events) (world_of judge.world)
        (judged-all setup rows judge (Verdict.Lawful judge.world.events) (world_of judge.world) (rw is (refl, refl)) judged))
    by_stop (Some first) is = ap deciding (one first (world_of judge.world) (judged-all setup rows judge first (world_of judge.world) (rw is (refl, refl)) judged))

-- ---- which nodes stay as they were

-- a run changes its caller and its callee alone
run-stays : (setup : Setup) (w : World) (i : ℕ) (w' : World) (a : Answer) (j : ℕ) → WorldInvariant setup w → Step setup w (Event.Run i) w' a
    → j ≢ i → j ≢ place_at w i (Some (kind_of (Event.Run i))) → node_state w' j ≡ node_state w j
run-stays setup w i w' a j fits (c, at, sent, up, is, answered) apart other = rw is (ran_other setup w i c fits at up j apart callee)
  where
    callee : j ≢ c.call.callee
    callee e = other (e ∙ sym (ap (callee_or i) (ap (option_map (λ (p : Pending). p.call)) at)))

-- an event leaves each node but its own and the one whose vector it may change
pub event-stays : (setup : Setup) (w : World) (e : Event) (w' : World) (a : Answer) (j : ℕ) → WorldInvariant setup w → Step setup w e w' a
    → j ≢ node_of e → j ≢ place_at w (node_of e) (Some (kind_of e)) → node_state w' j ≡ node_state w j
event-stays setup w (Event.Run i) w' a j fits step apart other = run-stays setup w i w' a j fits step apart other
event-stays setup w e w' a j fits step apart other = own_other setup w w' e a j (λ i same. absurd (cc same)) step apart

-- the same of the world behind it, if it is possible
stepped-stays : (setup : Setup) (w : World) (e : Event) (j : ℕ) → WorldInvariant setup w → j ≢ node_of e → j ≢ place_at w (node_of e) (Some (kind_of e))
    → node_state (stepped setup w e) j ≡ node_state w j
stepped-stays setup w e j fits apart other = by_step (step_of setup w e) refl
  where
    by_step : (q : StepResult) → step_of setup w e ≡ q → node_state (elim q as (λ _. World) [ None ↦ w | Some r ↦ r.0 ]) j ≡ node_state w j
    by_step None is = refl
    by_step (Some (w', a)) is = event-stays setup w e w' a j fits (computed_steps setup w e w' a is) apart other

stepped-fits : (setup : Setup) (w : World) (e : Event) → WorldInvariant setup w → WorldInvariant setup (stepped setup w e)
stepped-fits setup w e fits = by_step (step_of setup w e) refl
  where
    by_step : (q : StepResult) → step_of setup w e ≡ q → WorldInvariant setup (elim q as (λ _. World) [ None ↦ w | Some r ↦ r.0 ])
    by_step None is = fits
    by_step (Some (w', a)) is = step_fits setup w e w' a (computed_steps setup w e w' a is) fits

next-fits : (setup : Setup) (w : World) (row : Row) → WorldInvariant setup w → WorldInvariant setup (next_world setup w row)
next-fits setup w (Row.Event e) fits = stepped-fits setup w e fits
next-fits setup w (Row.Detailed d) fits = stepped-fits setup w (event_of_detailed d) fits
next-fits setup w (Row.Claim claim) fits = fits
next-fits setup w (Row.Whole whole) fits = fits

-- the node that a row of version 3 names is its event's
told-node : (d : DetailedEvent) → node_of (event_of_detailed d) ≡ d.node
told-node d = kind-node d.detail.kind d.node

next-stays : (setup : Setup) (w : World) (row : Row) (j : ℕ) → WorldInvariant setup w → j ≢ node_in row → j ≢ place_at w (node_in row) (event_kind_in row)
    → node_state (next_world setup w row) j ≡ node_state w j
next-stays setup w (Row.Event e) j fits apart other = stepped-stays setup w e j fits apart other
next-stays setup w (Row.Detailed d) j fits apart other =
    stepped-stays setup w (event_of_detailed d) j fits (λ e. apart (e ∙ told-node d)) (λ e. other (e ∙ ap (λ i. place_at w i (Some (kind_of (event_of_detailed d)))) (told-node d)))
next-stays setup w (Row.Claim claim) j fits apart other = refl
next-stays setup w (Row.Whole whole) j fits apart other = refl

-- one more row leaves each node but its own and the one whose vector it may change
taken-stays : (setup : Setup) (w : World) (count : ℕ) (rows : List Row) (row : Row) (j : ℕ) → WorldInvariant setup w
    → j ≢ node_in row → j ≢ place_at (taken setup w count rows) (node_in row) (event_kind_in row)
    → node_state (taken setup w count (rows ++ row ∷ [])) j ≡ node_state (taken setup w count rows) j
taken-stays setup w count [] row j fits apart other = by_test (decides setup w count row)
  where
    by_test : (b : Bool) → node_state (if b then w else next_world setup w row) j ≡ node_state w j
    by_test true = refl
    by_test false = next-stays setup w row j fits apart other
taken-stays setup w count (first ∷ rows) row j fits apart other =
    by_test (decides setup w count first) other (taken-stays setup (next_world setup w first) (next_count count first) rows row j (next-fits setup w first fits) apart)
  where
    by_test : (b : Bool) → j ≢ place_at (if b then w else taken setup (next_world setup w first) (next_count count first) rows) (node_in row) (event_kind_in row)
        → (j ≢ place_at (taken setup (next_world setup w first) (next_count count first) rows) (node_in row) (event_kind_in row)
        → node_state (taken setup (next_world setup w first) (next_count count first) (rows ++ row ∷ [])) j ≡ node_state (taken setup (next_world setup w first) (next_count count first) rows) j)
        → node_state (if b then w else taken setup (next_world setup w first) (next_count count first) (rows ++ row ∷ [])) j
        ≡ node_state (if b then w else taken setup (next_world setup w first) (next_count count first) rows) j
    by_test true other more = refl
    by_test false other more = more other

pub behind-stays : (setup : Setup) (before : List Row) (row : Row) (j : ℕ) → j ≢ node_in row → j ≢ place_at (world_behind setup before) (node_in row) (event_kind_in row)
    → snapshot (world_behind setup (before ++ row ∷ [])) j ≡ snapshot (world_behind setup before) j
behind-stays setup before row j apart other =
    ap seen_of (taken-stays setup (first_world setup) 0 before row j (first_fits setup) apart other)

-- ---- a node that the group doesn't have

pub beyond-empty : (world : WorldState) (i : ℕ) → IsReached world → world.setup.nodes < i → node_state (world_of world) i ≡ empty_node_state
beyond-empty world i reached past =
    let fits = lawful_fits world.setup reached.applied reached.answers (world_of world) reached.lawful in
    at_node_past empty_node_state (world_of world).states i (omega (arith, fits.count, past))
