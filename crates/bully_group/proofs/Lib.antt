pub mod WorldLemmas
pub mod TurnLemmas
pub mod SeatLemmas
pub mod LockedLemmas
pub mod FinishLemmas
pub mod PartCounts
