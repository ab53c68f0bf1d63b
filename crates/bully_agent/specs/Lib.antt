pub mod Part
pub mod Agent
pub mod Calls
pub mod Laws
