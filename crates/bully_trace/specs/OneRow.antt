-- What one row comes to in a world: what is wrong with it, or the world that it leads to.
use Rattle.std.specs.Prelude.{◌≡◌, ℕ, Bool, Option, Some, None, IfSome, option_map, if◌then◌else◌, false, ◌==◌}
use Rattle.bully_calls.specs.declared.call.Answer.{Answer}
use Rattle.bully_calls.specs.declared.event.Refused.{Refused}
use Rattle.bully_rows.specs.EventsTold.{event_of_detailed}
use Rattle.bully_rows.specs.declared.trace.Row.{Row}
use Rattle.bully_trace.specs.Details.{is_so, is_true, is_whole}
use Rattle.bully_trace.specs.Judging.{JudgeState}
use Rattle.bully_trace.specs.declared.verdict.Verdict.{Verdict}
use Rattle.bully_trace.specs.declared.verdict.Violation.{Violation}
use Rattle.bully_world.specs.State.{IsApplied, WorldState, cause_in, world_of}

-- the verdict where this is wrong with the row of this number, and with none before it
abbrev pub verdict_at : ℕ → Violation → Verdict
verdict_at number (Violation.Refused why) = Verdict.Refused number why
verdict_at number Violation.Differs = Verdict.Differs number

-- what is wrong with the row that decided
abbrev pub violation_in : Verdict → Option Violation
violation_in (Verdict.Lawful count) = None
violation_in (Verdict.Refused number why) = Some (Violation.Refused why)
violation_in (Verdict.Differs number) = Some Violation.Differs

-- the row of this number decided
abbrev pub decides : Verdict → ℕ → Bool
decides (Verdict.Lawful count) row = false
decides (Verdict.Refused number why) row = row == number
decides (Verdict.Differs number) row = row == number

abbrev pub refused_or : Option Refused → Option Violation → Option Violation
refused_or None other = other
refused_or (Some why) other = Some (Violation.Refused why)

abbrev pub differs_unless : Bool → Option Violation
differs_unless so = if so then None else Some Violation.Differs

-- what is wrong with the row in this world, if anything is: its event is refused, or what it says isn't so
abbrev pub violation_of : WorldState → Row → Option Violation
violation_of w (Row.Event e) = refused_or (cause_in w e) None
violation_of w (Row.Detailed e) =
    refused_or (cause_in w (event_of_detailed e)) (differs_unless (is_so w.setup (world_of w) e))
violation_of w (Row.Claim claim) = differs_unless (is_true w.setup (world_of w) claim)
violation_of w (Row.Whole whole) = differs_unless (is_whole w.setup (world_of w) whole)

-- the row's event was applied; where it has none, nothing changed
abbrev pub IsRowTaken : WorldState → Row → WorldState → Type 0
IsRowTaken before (Row.Event e) after = (a : Answer) × IsApplied before e after a
IsRowTaken before (Row.Detailed e) after = (a : Answer) × IsApplied before (event_of_detailed e) after a
IsRowTaken before (Row.Claim claim) after = after ≡ before
IsRowTaken before (Row.Whole whole) after = after ≡ before

-- the judge took the row of this number: after a row that decided nothing changes; else what is wrong with this row
-- decides, and where nothing is, it was taken to the world
pub record IsTakenBy (number : ℕ) (row : Row) (before after : JudgeState) : Type 0 where
  pub decided : IfSome before.stopped (λ verdict. after ≡ before)
  pub decides : before.stopped ≡ None → after.stopped ≡ option_map (verdict_at number) (violation_of before.world row)
  pub taken : before.stopped ≡ None → after.stopped ≡ None → IsRowTaken before.world row after.world
  pub stays : IfSome after.stopped (λ verdict. after.world ≡ before.world)
