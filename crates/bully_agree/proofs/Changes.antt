-- The ways in which one node changes.
pub mod Shrinks
pub mod Asks
pub mod Passes
pub mod Joins
pub mod Announces
pub mod Leads
pub mod Plans
pub mod Readies
pub mod Follows
pub mod Finishes
