pub mod LawfulLemmas
pub mod ToldLemmas
pub mod RecordingLemmas
pub mod OperatorLemmas
pub mod RoundLemmas
pub mod ScheduleLemmas
