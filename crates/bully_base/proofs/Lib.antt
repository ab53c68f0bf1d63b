pub mod NodeSetLemmas
pub mod PlaceLemmas
pub mod RowLemmas
pub mod SetupLemmas
pub mod UsedLemmas
pub mod WordLemmas
