-- What one command wrote, judged by `check`.
use Rattle.std.specs.Prelude.{◌≡◌, ◌⊎◌, ℕ, List, [], Ok, Some, length}
use Rattle.std.specs.Io.KnownBytes.{Appends, Keeps}
use Rattle.bully_base.specs.Setup.{Setup}
use Rattle.bully_calls.specs.declared.event.Event.{Event}
use Rattle.bully_world.specs.World.{World}
use Rattle.bully_trace.specs.declared.verdict.Verdict.{Verdict}
use Rattle.bully_trace.specs.VerdictText.{verdict_text}
use Rattle.bully_config.specs.Configuration.{Configuration}
use Rattle.bully_play.specs.Play.{IsPlay, trace_setup}
use Rattle.bully.specs.Answer.{IsAnswer, IsStopAnswer, KnownBytes}
use Rattle.bully.specs.AnnotateAnswer.{IsAnnotateAnswer}
use Rattle.bully.specs.ConfigAnswer.{IsPlayAnswer, IsRunAnswer}
use Rattle.bully.specs.Wanted.{ReadsAs}

-- that so many events are lawful stands on the output, with the nodes of this world
abbrev pub TellsLawful : Setup → ℕ → World → KnownBytes → KnownBytes → KnownBytes → KnownBytes → ℕ → Type 0
TellsLawful setup count w output output' errors errors' status =
    Appends output output' (verdict_text setup (Verdict.Lawful count) w) × Keeps errors errors' × (status ≡ 0)

-- each answer of `check` to these bytes tells that so many events are lawful, unless reading, writing or memory fails
abbrev pub IsCheckedAsLawful : List ℕ → Setup → ℕ → World → Type 0
IsCheckedAsLawful bytes setup count w =
    (output output' errors errors' : KnownBytes) (status : ℕ) → IsAnswer bytes output output' errors errors' status
    → TellsLawful setup count w output output' errors errors' status
    ⊎ IsStopAnswer bytes output output' errors errors' status

-- these bytes are checked as a play of the configuration that those bytes are
abbrev pub IsCheckedAsPlay : List ℕ → List ℕ → Type 0
IsCheckedAsPlay bytes written =
    (config : Configuration) × (events : List Event) × (w : World) × ReadsAs bytes (Ok config) × IsPlay config events
    × IsCheckedAsLawful written (trace_setup config.setup) (length events) w

-- what `play` wrote from the front of an output, where it answers 0
abbrev pub PlayedIsLawful : Type 0
PlayedIsLawful =
    (bytes written : List ℕ) (errors errors' : KnownBytes)
    → IsPlayAnswer bytes (Some []) (Some written) errors errors' 0
    → IsCheckedAsPlay bytes written

-- the same of `run`
abbrev pub RunIsLawful : Type 0
RunIsLawful =
    (bytes written : List ℕ) (errors errors' : KnownBytes) → IsRunAnswer bytes (Some []) (Some written) errors errors' 0
    → IsCheckedAsPlay bytes written

-- the same of `annotate`: what it wrote is checked as what it read is
abbrev pub AnnotatedIsLawful : Type 0
AnnotatedIsLawful =
    (bytes written : List ℕ) (errors errors' : KnownBytes)
    → IsAnnotateAnswer bytes (Some []) (Some written) errors errors' 0
    → (setup : Setup) × (count : ℕ) × (w : World) × IsCheckedAsLawful bytes setup count w
    × IsCheckedAsLawful written setup count w
