pub mod FactLemmas
pub mod FaultLemmas
pub mod ItemLemmas
pub mod NameLemmas
pub mod WeightLemmas
