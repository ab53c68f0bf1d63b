pub mod Names
pub mod Seat
pub mod Locked
pub mod Steps
pub mod Turns
pub mod OwnLoop
pub mod Finish
pub mod Publish
