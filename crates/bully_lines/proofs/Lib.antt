pub mod LineLemmas
mod ReadBackLemmas
mod ToldLemmas
