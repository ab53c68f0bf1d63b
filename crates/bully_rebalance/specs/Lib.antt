pub mod Acting
pub mod Leaving
pub mod Owning
pub mod Stable
pub mod Rebalancing
