pub mod Play
pub mod Recording
pub mod Schedule
pub mod Turns
