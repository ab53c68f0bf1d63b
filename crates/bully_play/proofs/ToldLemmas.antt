-- The trace of a lawful list of events is one that a text can tell.
use Rattle.std.proofs.Common.{◌≡◌, ℕ, List, Option, Some, [], arith, refl, sym, subst}
use Rattle.std.proofs.lemmas.List.Elements.{All-weaker}
use Rattle.bully_base.specs.Setup.{IsSetup, Setup}
use Rattle.bully_calls.specs.declared.event.Event.{Event}
use Rattle.bully_rows.specs.declared.header.Version.{Version}
use Rattle.bully_rows.specs.Headers.{IsVersionFor}
use Rattle.bully_rows.specs.ReadBack.{AreOwners, IsEventTold, IsTold}
use Rattle.bully_rows.proofs.SetupTold.{event-told, events-told}
use Rattle.bully_world.proofs.NamedLemmas.{IsEventOf, lawful-events}
use Rattle.bully_config.specs.Configuration.{Configuration}
use Rattle.bully_rows.specs.Rows.{IsTraceOf}
use Rattle.bully_rows.specs.Trace.{Trace}
use Rattle.bully_play.specs.Play.{IsPlay, LawfulTold, trace_setup, trace_with}

-- a trace's setup is within the limits, too
trace-within : (setup : Setup) → IsSetup setup → IsSetup (trace_setup setup)
trace-within setup within = record { nodes = within.nodes; partitions = within.partitions; events = (omega arith, omega arith); weights = within.weights }

one-told : (version : Version) (setup : Setup) (e : Event) → IsSetup setup → IsVersionFor version setup → IsEventOf setup e → IsEventTold version setup e
one-told version setup (Event.Plan i table) within fits of = event-told version setup (Event.Plan i table) within fits of.0 (λ j owners is. by_table j owners is)
  where
    by_table : (j : ℕ) (owners : List ℕ) → Event.Plan i table ≡ Event.Plan j owners → AreOwners setup owners
    by_table j owners is = let same : table ≡ owners = cc is in rw (← same) (of.1, of.2)
one-told version setup e within fits of = event-told version setup e within fits of (λ i table is. absurd (cc is))

pub lawful-told : LawfulTold
lawful-told setup events answers w within lawful =
    let in_trace = trace_setup setup in
    let most = within.events in
    let few = lawful.bounded in
    let inside = trace-within setup within in
    events-told in_trace events inside refl (omega (arith, few, most))
    (λ version fits. All-weaker (IsEventOf setup) (IsEventTold version in_trace) (λ e of. one-told version in_trace e inside fits (same-event e of)) events (lawful-events setup events answers w lawful))
  where
    same-event : (e : Event) → IsEventOf setup e → IsEventOf (trace_setup setup) e
    same-event (Event.Plan i table) of = of
    same-event e of = of

pub play-told : (c : Configuration) (events : List Event) (trace : Trace) → IsSetup c.setup → IsPlay c events → trace ≡ trace_with c.setup events → IsTold trace
play-told c events trace within play same = subst IsTold (sym same) (lawful-told c.setup events play.answers play.world within play.lawful)

-- what was written means the trace of the play
pub play-read : (c : Configuration) (events : List Event) (trace : Trace) (old new : Option (List ℕ)) → IsPlay c events → trace ≡ trace_with c.setup events → IsTold trace
    → (old ≡ Some [] → IsTold trace → IsTraceOf new trace) → old ≡ Some [] → (events : List Event) × IsPlay c events × IsTraceOf new (trace_with c.setup events)
play-read c events trace old new play same told reads none = (events, play, subst (IsTraceOf new) same (reads none told))
