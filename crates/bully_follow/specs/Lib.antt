pub mod LastText
pub mod Lines
pub mod Followed
