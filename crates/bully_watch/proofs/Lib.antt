pub mod HistoryLemmas
pub mod PartLemmas
pub mod PrefixLemmas
pub mod CopyLemmas
pub mod StepLemmas
pub mod PublisherLemmas
