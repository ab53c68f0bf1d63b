pub mod Progress
pub mod Group
pub mod From
