-- A log that is followed row by row, as its text has them.
use Rattle.std.specs.Prelude.{◌≡◌, ◌⊎◌, ◌<◌, ◌+◌, ◌++◌, ◌∷◌, ℕ, List, Option, None, Some, true, length, map}
use Rattle.bully_rows.specs.Headers.{Record}
use Rattle.bully_rows.specs.RecordsLeft.{ReadSoFar, Takes}
use Rattle.bully_rows.specs.Rows.{row_of}
use Rattle.bully_rows.specs.declared.TheConstants.{ROWS_MAX}
use Rattle.bully_rows.specs.declared.trace.Row.{Row}
use Rattle.bully_rows.specs.declared.trace.TraceCause.{TraceCause}
use Rattle.bully_replica.specs.Replica.{HasLearned, Learns, ReplicaState}
use Rattle.bully_replica.specs.declared.row_replica.LearnFault.{LearnFault}
use Rattle.bully_trace.specs.OneRow.{violation_of}

-- the replica, and how many rows it learned
pub record RowReplicaState : Type 0 where
  pub replica : ReplicaState
  pub rows : ℕ

-- what these fields mean in a row of the replica's log
abbrev pub row_in : ReplicaState → Record → Option Row
row_in r fields = row_of r.version r.world.setup fields

-- the row that these fields mean was learned
abbrev pub LearnsFields : Record → ReplicaState → ReplicaState → Type 0
LearnsFields fields before after = (row : Row) × (row_in before fields ≡ Some row) × Learns row before after

-- and counted; there was room for it
abbrev pub Follows : Record → RowReplicaState → RowReplicaState → Type 0
Follows fields before after = LearnsFields fields before.replica after.replica × (before.rows < ROWS_MAX)
    × (after.rows ≡ before.rows + 1)

-- why these fields aren't learned: they mean no row, or something is wrong with the row; or there is no memory
abbrev pub FailsOn : Record → ReplicaState → LearnFault → Type 0
FailsOn fields r (LearnFault.Form cause) =
    (cause ≡ TraceCause.OutOfMemory) ⊎ ((cause ≡ TraceCause.BadRow) × (row_in r fields ≡ None))
FailsOn fields r (LearnFault.Violation violation) = (row : Row) × (row_in r fields ≡ Some row)
    × (violation_of r.world row ≡ Some violation)

-- why these fields aren't learned after the rows so far: a trace has no more rows, or FailsOn
abbrev pub FailsBehind : Record → RowReplicaState → LearnFault → Type 0
FailsBehind fields f fault =
    ((f.rows ≡ ROWS_MAX) × (fault ≡ LearnFault.Form TraceCause.TooManyRows))
    ⊎ ((f.rows < ROWS_MAX) × FailsOn fields f.replica fault)

-- why no row can be read: the reader fails, or there is no memory; or it has given as many rows as a trace may have
-- with its header
abbrev pub FailsOutside : ReadSoFar → LearnFault → Type 0
FailsOutside reader fault =
    (fault ≡ LearnFault.Form TraceCause.Read) ⊎ (fault ≡ LearnFault.Form TraceCause.OutOfMemory)
    ⊎ ((fault ≡ LearnFault.Form TraceCause.TooManyRows) × (reader.number ≡ ROWS_MAX + 1))

-- why the next row isn't learned
abbrev pub FailsAt : ReadSoFar → ReadSoFar → RowReplicaState → LearnFault → Type 0
FailsAt before after f fault = FailsOutside before fault
    ⊎ (Takes before.records after.records true after.fields × FailsBehind after.fields f fault)

-- the first of these records were learned, as the rows that they mean, after those before; and the others are left
pub record FollowsUpTo (records : List Record) (before after : RowReplicaState) (left : List Record) : Type 0 where
  pub rows : List Row
  pub read : List Record
  pub parts : records ≡ read ++ left
  pub mean : map (row_in before.replica) read ≡ map Some rows
  pub counted : after.rows ≡ before.rows + length rows
  pub version : after.replica.version ≡ before.replica.version
  pub setup : after.replica.world.setup ≡ before.replica.world.setup
  pub learned : (earlier : List Row) → HasLearned before.replica earlier → HasLearned after.replica (earlier ++ rows)

-- why the first of those that are left isn't learned: it can't be read, or there is no memory, or FailsBehind
abbrev pub StopsAt : List Record → RowReplicaState → LearnFault → Type 0
StopsAt left f fault =
    (fault ≡ LearnFault.Form TraceCause.Read) ⊎ (fault ≡ LearnFault.Form TraceCause.OutOfMemory)
    ⊎ ((fields : Record) × (rest : List Record) × (left ≡ fields ∷ rest) × FailsBehind fields f fault)

-- or a reader that was here when the replica was at `before` has given as many rows as a trace may have with its header
abbrev pub Stops : ReadSoFar → RowReplicaState → List Record → RowReplicaState → LearnFault → Type 0
Stops reader before left f fault =
    StopsAt left f fault
    ⊎ ((fault ≡ LearnFault.Form TraceCause.TooManyRows) × (reader.number + f.rows ≡ before.rows + (ROWS_MAX + 1)))
