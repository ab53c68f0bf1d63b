-- That a trace has one verdict, and which one the trace of a lawful list has.
use Rattle.std.specs.Prelude.{◌≡◌, List, length, map}
use Rattle.bully_base.specs.Setup.{Setup}
use Rattle.bully_calls.specs.declared.call.Answer.{Answer}
use Rattle.bully_calls.specs.declared.event.Event.{Event}
use Rattle.bully_world.specs.Lawful.{IsLawful}
use Rattle.bully_world.specs.World.{World}
use Rattle.bully_rows.specs.declared.header.Version.{Version}
use Rattle.bully_rows.specs.declared.trace.Row.{Row}
use Rattle.bully_rows.specs.Trace.{Trace}
use Rattle.bully_trace.specs.declared.verdict.Verdict.{Verdict}
use Rattle.bully_trace.specs.Verdict.{IsVerdict}

-- no trace has two verdicts, nor are its rows taken to two worlds
abbrev pub HasOneVerdict : Type 0
HasOneVerdict = (trace : Trace) (verdict other : Verdict) (w v : World) → IsVerdict trace verdict w
    → IsVerdict trace other v → (verdict ≡ other) × (w ≡ v)

-- the trace of a lawful list of events is lawful, with as many, in whatever version it is told
abbrev pub JudgesLawful : Type 0
JudgesLawful =
    (version : Version) (setup : Setup) (events : List Event) (answers : List Answer) (w : World)
    → IsLawful setup events answers w
    → IsVerdict (record { version = version; setup = setup; rows = map Row.Event events })
    (Verdict.Lawful (length events)) w
