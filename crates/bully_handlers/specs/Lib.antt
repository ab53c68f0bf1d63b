pub mod Vector
pub mod Handler
