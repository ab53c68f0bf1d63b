pub mod Behind
pub mod Scene
pub mod Window
pub mod Distance
pub mod Film
pub mod Lane
