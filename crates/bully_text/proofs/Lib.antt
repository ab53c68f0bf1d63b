pub mod EachLemmas
pub mod PlainLemmas
