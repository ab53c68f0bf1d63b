pub mod History
pub mod Observation
pub mod CopyRule
pub mod Sight
