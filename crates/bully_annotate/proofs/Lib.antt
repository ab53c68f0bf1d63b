pub mod FullLemmas
pub mod SaidLemmas
pub mod SaysLemmas
pub mod ShownLemmas
pub mod ToldLemmas
