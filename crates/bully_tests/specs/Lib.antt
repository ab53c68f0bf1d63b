pub mod Trial
pub mod Scripts
pub mod Claims
