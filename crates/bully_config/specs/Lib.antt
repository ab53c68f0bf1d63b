pub mod Keys
pub mod Document
pub mod Configuration
pub mod Values
pub mod Refusals
pub mod Answers
pub mod Searches
