pub mod RoomLemmas
pub mod ConfigurationLemmas
pub mod MappedLemmas
pub mod OldTableLemmas
pub mod LeaseLemmas
pub mod EventTextLemmas
pub mod SetLemmas
pub mod SetupLemmas
pub mod StepLemmas
pub mod ReplyLemmas
mod LogRowLemmas
mod Heap
mod RawBoxLemmas
