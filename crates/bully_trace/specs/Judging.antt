-- A judge of rows that come one by one.
use Rattle.std.specs.Prelude.{◌≡◌, ℕ, ◌+◌, List, ◌++◌, length, Option, MatchOption}
use Rattle.bully_base.specs.Setup.{Setup}
use Rattle.bully_world.specs.State.{WorldState, world_of}
use Rattle.bully_world.specs.World.{World, first_world}
use Rattle.bully_rows.specs.declared.header.Header.{Header}
use Rattle.bully_rows.specs.declared.header.Version.{Version}
use Rattle.bully_rows.specs.declared.trace.Row.{Row}
use Rattle.bully_trace.specs.declared.verdict.Verdict.{Verdict}
use Rattle.bully_rows.specs.Feeding.{IsWhollyTaken}
use Rattle.bully_trace.specs.Verdict.{IsJudged}

-- the version of the trace, the world that its rows were taken to, and the first verdict that isn't lawful
pub record JudgeState : Type 0 where
  pub version : Version
  pub world : WorldState
  pub stopped : Option Verdict

-- from this world and this first verdict on, after further rows, the first of which has this number, the verdict and
-- the last world are these
abbrev pub IsJudgedOn : WorldState → Option Verdict → ℕ → List Row → Verdict → World → Type 0
IsJudgedOn world stopped number more verdict w =
    MatchOption stopped
    (IsJudged world.setup (world_of world) world.events number more verdict w)
    (λ first. (verdict ≡ first) × (w ≡ world_of world))

-- the rows of a trace were judged: what it comes to after further rows, all of them come to from the first world
pub record HasJudged (setup : Setup) (rows : List Row) (judge : JudgeState) : Type 0 where
  pub same : judge.world.setup ≡ setup
  pub judged : (more : List Row) (verdict : Verdict) (w : World)
      → IsJudgedOn judge.world judge.stopped (length rows + 2) more verdict w
      → IsJudged setup (first_world setup) 0 2 (rows ++ more) verdict w

-- the rows of a trace with this header were judged
abbrev pub HasJudgedBehind : Header → List Row → JudgeState → Type 0
HasJudgedBehind header rows judge = HasJudged header.setup rows judge × (judge.version ≡ header.version)

-- all rows of a text were judged
abbrev pub AreAllJudged : Option (List ℕ) → JudgeState → Type 0
AreAllJudged = IsWhollyTaken HasJudgedBehind
