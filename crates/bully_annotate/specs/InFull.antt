-- That everything is said of each event of a call: which call it is, and what was answered.
use Rattle.std.specs.Prelude.{◌≡◌, ℕ, List, Option, Some, None, All, ⊤}
use Rattle.bully_base.specs.Setup.{Setup}
use Rattle.bully_calls.specs.declared.call.Answer.{Answer}
use Rattle.bully_calls.specs.declared.call.Call.{Call}
use Rattle.bully_calls.specs.declared.event.Event.{Event}
use Rattle.bully_calls.specs.declared.kind.NodeEventKind.{NodeEventKind}
use Rattle.bully_calls.specs.declared.kind.Saying.{Saying}
use Rattle.bully_calls.specs.Events.{kind_of, saying_of}
use Rattle.bully_rows.specs.declared.detail.Detail.{Detail}
use Rattle.bully_rows.specs.declared.detail.DetailedEvent.{DetailedEvent}
use Rattle.bully_rows.specs.declared.trace.Row.{Row}
use Rattle.bully_rows.specs.EventsTold.{answered, unanswered}
use Rattle.bully_rows.specs.Trace.{Trace}
use Rattle.bully_trace.specs.declared.verdict.Verdict.{Verdict}
use Rattle.bully_trace.specs.Details.{said_of}
use Rattle.bully_trace.specs.Verdict.{IsVerdict}
use Rattle.bully_world.specs.Lawful.{IsLawful}
use Rattle.bully_world.specs.Place.{call_at}
use Rattle.bully_world.specs.Step.{Step}
use Rattle.bully_world.specs.World.{World}
use Rattle.bully_annotate.specs.Annotated.{annotated}

-- this is said of an event of node i, in whose slot the call is in this world
abbrev pub IsSaidOf : World → ℕ → (Call → Detail) → Option DetailedEvent → Type 0
IsSaidOf w i detail said = (call : Call) × (call_at w i ≡ Some call)
    × (said ≡ Some (record { node = i; detail = detail call }))

-- this is said of an event that leads from w to w' and is answered so: of a Start the call that it leaves in the slot
-- of its node; of a Run, a Lose, a Return and a Drop the call that is there before it; of a Run and a Return the
-- answer, too; of any other event nothing
abbrev pub IsSaidInFull : World → Event → World → Answer → Option DetailedEvent → Type 0
IsSaidInFull w (Event.Start i) w' a said = IsSaidOf w' i (λ call. unanswered NodeEventKind.Start call) said
IsSaidInFull w (Event.Run i) w' a said = IsSaidOf w i (λ call. answered NodeEventKind.Run call a) said
IsSaidInFull w (Event.Lose i) w' a said = IsSaidOf w i (λ call. unanswered NodeEventKind.Lose call) said
IsSaidInFull w (Event.Return i) w' a said = IsSaidOf w i (λ call. answered NodeEventKind.Return call a) said
IsSaidInFull w (Event.Drop i) w' a said = IsSaidOf w i (λ call. unanswered NodeEventKind.Drop call) said
IsSaidInFull w e w' a said = said ≡ None

-- of each event that is possible after a lawful list all is said
abbrev pub SaysEachCall : Type 0
SaysEachCall =
    (setup : Setup) (events : List Event) (answers : List Answer) (w : World) (e : Event) (w' : World) (a : Answer)
    → IsLawful setup events answers w → Step setup w e w' a → IsSaidInFull w e w' a (said_of setup w e)

-- the row says all that a row may: it tells no event of a call alone, and no claim of a part of a vector
abbrev pub IsInFull : Row → Type 0
IsInFull (Row.Event e) = saying_of (kind_of e) ≡ Saying.Nothing
IsInFull (Row.Detailed detailed) = ⊤
IsInFull (Row.Claim claim) = ⊥
IsInFull (Row.Whole whole) = ⊤

-- each row of the annotated trace of a lawful one does
abbrev pub AnnotatedIsInFull : Type 0
AnnotatedIsInFull = (trace : Trace) (count : ℕ) (w : World) → IsVerdict trace (Verdict.Lawful count) w
    → All IsInFull (annotated trace).rows
