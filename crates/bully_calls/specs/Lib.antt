pub mod Pending
pub mod Slot
pub mod Waiting
pub mod Events
