pub mod Shells
pub mod Words
