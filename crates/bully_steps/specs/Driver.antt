-- What a node does on its own in a turn.
use Rattle.std.specs.Prelude.{ℕ, ◌/◌, ◌%◌, ◌==◌, if◌then◌else◌}
use Rattle.bully_steps.specs.declared.driver.Choice.{Choice}
use Rattle.bully_steps.specs.declared.driver.Choice.TheVariants.{Proceed, Check, Timeout}
use Rattle.bully_steps.specs.declared.point.Point.{Point}
use Rattle.bully_steps.specs.declared.point.Point.TheVariants.{Idle}

-- an idle node checks where the period divides its turn, and has a timeout where the rest is half the period, rounded
-- down
abbrev pub chosen_every : ℕ → ℕ → Point → Choice
chosen_every period turn Idle =
    if turn % period == 0 then Check else (if turn % period == period / 2 then Timeout else Proceed)
chosen_every period turn _ = Proceed

-- the same with the profile's period
abbrev pub chosen : ℕ → Point → Choice
chosen turn point = chosen_every 16 turn point
