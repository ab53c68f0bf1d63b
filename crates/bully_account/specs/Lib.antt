pub mod Possible
pub mod NodeSummary
pub mod Moving
pub mod Remembered
pub mod RowsOf
pub mod Accounts
pub mod TraceReport
pub mod Tail
