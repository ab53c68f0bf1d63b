pub mod RunLemmas
mod ToldLemmas
