pub mod WordsLemmas
mod ActionLemmas
mod CommandLemmas
