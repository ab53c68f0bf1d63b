pub mod ConfigTold
pub mod Drafted
pub mod Shown
