-- What is written of a trace last.
use Rattle.std.specs.Prelude.{◌≡◌, ℕ, List}
use Rattle.bully_base.specs.Setup.{Setup}
use Rattle.bully_world.specs.State.{world_of}
use Rattle.bully_world.specs.World.{World}
use Rattle.bully_trace.specs.VerdictText.{verdict_text}
use Rattle.bully_trace.specs.declared.verdict.Verdict.{Verdict}
use Rattle.bully_account.specs.Accounts.{AccountState}
use Rattle.bully_json.specs.Objects.{sheet_line, verdict_line}
use Rattle.bully_follow.specs.declared.lines.Telling.{Telling}

-- what `check` writes of a lawful verdict
abbrev pub lawful_told : Telling → Setup → Verdict → World → List ℕ
lawful_told Telling.Words setup verdict w = verdict_text setup verdict w
lawful_told Telling.Json setup verdict w = verdict_line setup verdict w

-- what explains a verdict that isn't lawful, as it is told
abbrev pub explained_told : Telling → Verdict → List ℕ → List ℕ
explained_told Telling.Words verdict text = text
explained_told Telling.Json verdict text = sheet_line verdict text

-- some text that explains what the account came to (what does is the caller's to say), as it is told
abbrev pub IsExplainedTold : (AccountState → List ℕ → Type 0) → Telling → AccountState → Verdict → List ℕ → Type 0
IsExplainedTold explains telling account verdict text =
    (told : List ℕ) × explains account told × (text ≡ explained_told telling verdict told)

-- the one or the other, by the verdict on what the account took
abbrev pub IsLastText : (AccountState → List ℕ → Type 0) → Telling → AccountState → Verdict → List ℕ → Type 0
IsLastText explains telling account (Verdict.Lawful count) text =
    text ≡ lawful_told telling account.judge.world.setup (Verdict.Lawful count) (world_of account.judge.world)
IsLastText explains telling account (Verdict.Refused number why) text =
    IsExplainedTold explains telling account (Verdict.Refused number why) text
IsLastText explains telling account (Verdict.Differs number) text =
    IsExplainedTold explains telling account (Verdict.Differs number) text
