-- A trace: its version, its setup, and its rows.
use Rattle.std.specs.Prelude.{◌≡◌, Bool, true, false, List, if◌then◌else◌}
use Rattle.std.specs.List.{list_all}
use Rattle.bully_base.specs.Setup.{Setup}
use Rattle.bully_rows.specs.declared.header.Header.{Header}
use Rattle.bully_rows.specs.declared.header.Version.{Version}
use Rattle.bully_rows.specs.declared.trace.Row.{Row}
use Rattle.bully_rows.specs.Headers.{says_more, version_for}

pub record Trace : Type 0 where
  pub version : Version
  pub setup : Setup
  pub rows : List Row

-- the trace of this header and these rows
abbrev pub headed : Header → List Row → Trace
headed header rows = record { version = header.version; setup = header.setup; rows = rows }

-- the row says no more than its event, or than a status and a coordinator
abbrev pub is_short : Row → Bool
is_short (Row.Event e) = true
is_short (Row.Detailed e) = false
is_short (Row.Claim claim) = true
is_short (Row.Whole whole) = false

abbrev pub are_short : List Row → Bool
are_short rows = list_all is_short rows

-- the version, where no row says more, and else version 3
abbrev pub version_with : Version → List Row → Version
version_with version rows = if are_short rows then version else Version.Three

-- rows that say more go only with version 3
abbrev pub AreRowsFor : Version → List Row → Type 0
AreRowsFor version rows = says_more version ≡ false → are_short rows ≡ true

-- the trace of this setup with these rows, in the first version that can tell the setup and the rows
abbrev pub trace_for : Setup → List Row → Trace
trace_for setup rows = record { version = version_with (version_for setup) rows; setup = setup; rows = rows }

-- the trace with the same setup and the same rows in the first version after 1 that can tell them
abbrev pub upgraded : Trace → Trace
upgraded trace = record { version = version_with Version.Two trace.rows; setup = trace.setup; rows = trace.rows }
