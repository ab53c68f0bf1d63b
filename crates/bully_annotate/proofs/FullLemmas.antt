-- Of each event of a call all is said.
use Rattle.std.proofs.Common.{◌≡◌, ◌∙◌, ℕ, ◌+◌, ◌++◌, Bool, true, false, List, [], ◌∷◌, Option, Some, None, MatchOption, All, if◌then◌else◌, refl, sym, ap, subst, option_map, option_and_then}
use Rattle.std.specs.Bool.{MatchBool}
use Rattle.std.proofs.lemmas.List.Elements.{All-append, All-cons, All-nil}
use Rattle.bully_base.specs.Setup.{Setup}
use Rattle.bully_calls.specs.declared.call.Answer.{Answer}
use Rattle.bully_calls.specs.declared.call.Call.{Call}
use Rattle.bully_calls.specs.declared.call.Outcome.{Outcome}
use Rattle.bully_calls.specs.declared.event.Event.{Event}
use Rattle.bully_calls.specs.declared.event.Refused.{Refused}
use Rattle.bully_calls.specs.declared.kind.NodeEventKind.{NodeEventKind}
use Rattle.bully_calls.specs.declared.kind.Saying.{Saying}
use Rattle.bully_calls.specs.Events.{kind_of, saying_of}
use Rattle.bully_calls.specs.Pending.{Pending, answer_of, outcome_of}
use Rattle.bully_handlers.specs.Handler.{reply}
use Rattle.bully_steps.specs.declared.point.Want.{Want}
use Rattle.bully_rows.specs.declared.detail.Detail.{Detail}
use Rattle.bully_rows.specs.declared.detail.DetailedEvent.{DetailedEvent}
use Rattle.bully_rows.specs.declared.trace.Row.{Row}
use Rattle.bully_rows.specs.EventsTold.{answered, event_of_detailed, unanswered}
use Rattle.bully_trace.specs.declared.verdict.Verdict.{Verdict}
use Rattle.bully_trace.specs.Details.{brought, is_so, is_true, is_whole, offered_call, said_of}
use Rattle.bully_trace.specs.Verdict.{IsJudged}
use Rattle.bully_world.specs.Cause.{cause}
use Rattle.bully_world.specs.NodeInvariant.{WorldInvariant}
use Rattle.bully_world.specs.Place.{call_at, place_of}
use Rattle.bully_world.specs.Step.{Returns, Step, sent}
use Rattle.bully_world.specs.World.{NodeState, World, first_world, node_state, pending, vector}
use Rattle.bully_world.proofs.NodeInvariantLemmas.{first_fits, lawful_fits, step_fits}
use Rattle.bully_world.proofs.NodeStateLemmas.{node_of_up, node_state_here}
use Rattle.bully_annotate.specs.Annotated.{event_rows, rows_said, said_row, same_vector, shown_change, shown_row, shown_unless}
use Rattle.bully_annotate.specs.InFull.{AnnotatedIsInFull, IsInFull, IsSaidInFull, SaysEachCall}
use Rattle.bully_annotate.proofs.SaidLemmas.{said-event}

-- ---- one event

abbrev told_of : ℕ → Option Detail → Option DetailedEvent
told_of i detail = option_map (λ (d : Detail). record { node = i; detail = d }) detail

-- what the call in the slot brings, where it returns
returned : (setup : Setup) (w w' : World) (i : ℕ) (live : Bool) (o : Outcome) (a : Answer) → Returns setup w i live o w' a → (if live then answer_of o else Answer.Discarded) ≡ a
returned setup w w' i true o a (on, is) = sym is
returned setup w w' i false o a (on, is) = sym is

brings : (i : ℕ) (c : Pending) (o : Outcome) (a : Answer) → outcome_of c.phase ≡ Some o → (if c.is_live then answer_of o else Answer.Discarded) ≡ a
    → told_of i (option_map (answered NodeEventKind.Return c.call) (brought c)) ≡ Some (record { node = i; detail = answered NodeEventKind.Return c.call a })
brings i c o a done is =
    ap (λ (q : Option Outcome). told_of i (option_map (answered NodeEventKind.Return c.call) (option_map (λ (o : Outcome). if c.is_live then answer_of o else Answer.Discarded) q))) done
    ∙ ap (λ (b : Answer). Some (record { node = i; detail = answered NodeEventKind.Return c.call b })) is

in-slot : (w : World) (i : ℕ) (c : Pending) → pending w i ≡ Some c → call_at w i ≡ Some c.call
in-slot w i c at = ap (option_map (λ (x : Pending). x.call)) at

pub said-in-full : (setup : Setup) (w : World) (e : Event) (w' : World) (a : Answer) → WorldInvariant setup w → Step setup w e w' a → IsSaidInFull w e w' a (said_of setup w e)
said-in-full setup w (Event.Recover i) w' a fits step = refl
said-in-full setup w (Event.Crash i) w' a fits step = refl
said-in-full setup w (Event.Check i) w' a fits step = refl
said-in-full setup w (Event.Timeout i) w' a fits step = refl
said-in-full setup w (Event.Start i) w' a fits (up, free, call, offers, leads, answered) =
    let here = node_state_here setup w i (record (node_state w i) { pending = Some (sent call (vector w i)) }) fits (node_of_up setup w i fits up) in (
      call,
      ap (λ (v : World). call_at v i) leads ∙ ap (λ (m : NodeState). option_map (λ (x : Pending). x.call) m.pending) here,
      ap (λ (want : Want). told_of i (option_map (unanswered NodeEventKind.Start) (offered_call want))) offers,
    )
said-in-full setup w (Event.Run i) w' a fits (c, at, phase, up, leads, is) = (
  c.call,
  in-slot w i c at,
  ap (λ (q : Option Call). told_of i (option_map (λ (call : Call). answered NodeEventKind.Run call (reply call.kind (vector w call.callee))) q)) (in-slot w i c at)
      ∙ ap (λ (b : Answer). Some (record { node = i; detail = answered NodeEventKind.Run c.call b })) (sym is),
)
said-in-full setup w (Event.Lose i) w' a fits (c, at, phase, down, leads, is) =
    (c.call, in-slot w i c at, ap (λ (q : Option Call). told_of i (option_map (unanswered NodeEventKind.Lose) q)) (in-slot w i c at))
said-in-full setup w (Event.Return i) w' a fits (c, o, at, done, returns) = (
  c.call,
  in-slot w i c at,
  ap (λ (q : Option Pending). told_of i (option_and_then (λ (x : Pending). option_map (answered NodeEventKind.Return x.call) (brought x)) q)) at
      ∙ brings i c o a done (returned setup w w' i c.is_live o a returns),
)
said-in-full setup w (Event.Drop i) w' a fits (c, at, orphan, leads, is) =
    (c.call, in-slot w i c at, ap (λ (q : Option Call). told_of i (option_map (unanswered NodeEventKind.Drop) q)) (in-slot w i c at))
said-in-full setup w (Event.Move i) w' a fits step = refl
said-in-full setup w (Event.Plan i table) w' a fits step = refl

pub says-each-call : SaysEachCall
says-each-call setup events answers w e w' a lawful step = said-in-full setup w e w' a (lawful_fits setup events answers w lawful) step

-- ---- its row

-- a row that says more says all
more-full : (e : Event) (d : DetailedEvent) (said : Option DetailedEvent) → said ≡ Some d → IsInFull (said_row e said)
more-full e d said is = subst (λ (o : Option DetailedEvent). IsInFull (said_row e o)) (sym is) tt

none-full : (e : Event) (said : Option DetailedEvent) → saying_of (kind_of e) ≡ Saying.Nothing → said ≡ None → IsInFull (said_row e said)
none-full e said nothing is = subst (λ (o : Option DetailedEvent). IsInFull (said_row e o)) (sym is) nothing

row-full : (w : World) (e : Event) (w' : World) (a : Answer) (said : Option DetailedEvent) → IsSaidInFull w e w' a said → IsInFull (said_row e said)
row-full w (Event.Recover i) w' a said is = none-full (Event.Recover i) said refl is
row-full w (Event.Crash i) w' a said is = none-full (Event.Crash i) said refl is
row-full w (Event.Check i) w' a said is = none-full (Event.Check i) said refl is
row-full w (Event.Timeout i) w' a said is = none-full (Event.Timeout i) said refl is
row-full w (Event.Start i) w' a said (call, at, is) = more-full (Event.Start i) _ said is
row-full w (Event.Run i) w' a said (call, at, is) = more-full (Event.Run i) _ said is
row-full w (Event.Lose i) w' a said (call, at, is) = more-full (Event.Lose i) _ said is
row-full w (Event.Return i) w' a said (call, at, is) = more-full (Event.Return i) _ said is
row-full w (Event.Drop i) w' a said (call, at, is) = more-full (Event.Drop i) _ said is
row-full w (Event.Move i) w' a said is = none-full (Event.Move i) said refl is
row-full w (Event.Plan i table) w' a said is = none-full (Event.Plan i table) said refl is

change-full : (w w' : World) (i : ℕ) → All IsInFull (shown_change w w' i)
change-full w w' i = by_test (same_vector (vector w i) (vector w' i))
  where
    by_test : (same : Bool) → All IsInFull (shown_unless same w' i)
    by_test true = All-nil IsInFull
    by_test false = All-cons IsInFull (shown_row w' i) [] tt (All-nil IsInFull)

event-full : (setup : Setup) (w mid : World) (e : Event) (a : Answer) (others : List Row) → WorldInvariant setup w → Step setup w e mid a → All IsInFull others
    → All IsInFull (event_rows setup w e mid ++ others)
event-full setup w mid e a others fits step more =
    All-append IsInFull (event_rows setup w e mid) others
    (All-cons IsInFull (said_row e (said_of setup w e)) (shown_change w mid (place_of w e)) (row-full w e mid a (said_of setup w e) (said-in-full setup w e mid a fits step)) (change-full w mid (place_of w e)))
    more

-- ---- all rows

-- behind an event
behind-full : (setup : Setup) (w : World) (count number : ℕ) (row : Row) (rows : List Row) (e : Event) (after : ℕ) (w' : World) → WorldInvariant setup w
    → ((mid : World) (a : Answer) → Step setup w e mid a → rows_said setup w (row ∷ rows) ≡ event_rows setup w e mid ++ rows_said setup mid rows)
    → ((mid : World) → WorldInvariant setup mid → IsJudged setup mid count number rows (Verdict.Lawful after) w' → All IsInFull (rows_said setup mid rows))
    → (mid : World) × (a : Answer) × Step setup w e mid a × IsJudged setup mid count number rows (Verdict.Lawful after) w'
    → All IsInFull (rows_said setup w (row ∷ rows))
behind-full setup w count number row rows e after w' fits said more (mid, a, step, j) =
    subst (All IsInFull) (sym (said mid a step)) (event-full setup w mid e a (rows_said setup mid rows) fits step (more mid (step_fits setup w e mid a step fits) j))

rows-full : (setup : Setup) (w : World) (count number : ℕ) (rows : List Row) (after : ℕ) (w' : World) → WorldInvariant setup w → IsJudged setup w count number rows (Verdict.Lawful after) w'
    → All IsInFull (rows_said setup w rows)
rows-full setup w count number [] after w' fits j = All-nil IsInFull
rows-full setup w count number (Row.Event e ∷ rows) after w' fits j = by_cause (cause setup w count e) j (λ mid ok. rows-full setup mid (count + 1) (number + 1) rows after w' ok)
  where
    by_cause : (q : Option Refused)
        → MatchOption q ((mid : World) × (a : Answer) × Step setup w e mid a × IsJudged setup mid (count + 1) (number + 1) rows (Verdict.Lawful after) w') (λ why. (Verdict.Lawful after ≡ Verdict.Refused number why) × (w' ≡ w))
        → ((mid : World) → WorldInvariant setup mid → IsJudged setup mid (count + 1) (number + 1) rows (Verdict.Lawful after) w' → All IsInFull (rows_said setup mid rows))
        → All IsInFull (rows_said setup w (Row.Event e ∷ rows))
    by_cause None j more = behind-full setup w (count + 1) (number + 1) (Row.Event e) rows e after w' fits (λ mid a step. said-event setup w mid e a rows step) more j
    by_cause (Some why) j more = absurd (cc j.0)
rows-full setup w count number (Row.Detailed d ∷ rows) after w' fits j =
    by_cause (cause setup w count (event_of_detailed d)) (is_so setup w d) j (λ mid ok. rows-full setup mid (count + 1) (number + 1) rows after w' ok)
  where
    by_cause : (q : Option Refused) (so : Bool)
        → MatchOption q (MatchBool so ((mid : World) × (a : Answer) × Step setup w (event_of_detailed d) mid a × IsJudged setup mid (count + 1) (number + 1) rows (Verdict.Lawful after) w')
        ((Verdict.Lawful after ≡ Verdict.Differs number) × (w' ≡ w))) (λ why. (Verdict.Lawful after ≡ Verdict.Refused number why) × (w' ≡ w))
        → ((mid : World) → WorldInvariant setup mid → IsJudged setup mid (count + 1) (number + 1) rows (Verdict.Lawful after) w' → All IsInFull (rows_said setup mid rows))
        → All IsInFull (rows_said setup w (Row.Detailed d ∷ rows))
    by_cause None true j more =
        behind-full setup w (count + 1) (number + 1) (Row.Detailed d) rows (event_of_detailed d) after w' fits (λ mid a step. said-event setup w mid (event_of_detailed d) a rows step) more j
    by_cause None false j more = absurd (cc j.0)
    by_cause (Some why) so j more = absurd (cc j.0)
rows-full setup w count number (Row.Claim claim ∷ rows) after w' fits j = by_claim (is_true setup w claim) j (rows-full setup w count (number + 1) rows after w' fits)
  where
    by_claim : (b : Bool) → MatchBool b (IsJudged setup w count (number + 1) rows (Verdict.Lawful after) w') ((Verdict.Lawful after ≡ Verdict.Differs number) × (w' ≡ w))
        → (IsJudged setup w count (number + 1) rows (Verdict.Lawful after) w' → All IsInFull (rows_said setup w rows)) → All IsInFull (shown_row w claim.node ∷ rows_said setup w rows)
    by_claim true j more = All-cons IsInFull (shown_row w claim.node) (rows_said setup w rows) tt (more j)
    by_claim false j more = absurd (cc j.0)
rows-full setup w count number (Row.Whole whole ∷ rows) after w' fits j = by_claim (is_whole setup w whole) j (rows-full setup w count (number + 1) rows after w' fits)
  where
    by_claim : (b : Bool) → MatchBool b (IsJudged setup w count (number + 1) rows (Verdict.Lawful after) w') ((Verdict.Lawful after ≡ Verdict.Differs number) × (w' ≡ w))
        → (IsJudged setup w count (number + 1) rows (Verdict.Lawful after) w' → All IsInFull (rows_said setup w rows)) → All IsInFull (shown_row w whole.claim.node ∷ rows_said setup w rows)
    by_claim true j more = All-cons IsInFull (shown_row w whole.claim.node) (rows_said setup w rows) tt (more j)
    by_claim false j more = absurd (cc j.0)

pub annotated-in-full : AnnotatedIsInFull
annotated-in-full trace count w v = rows-full trace.setup (first_world trace.setup) 0 2 trace.rows count w (first_fits trace.setup) v
