mod ConfigLemmas
pub mod DraftLemmas
mod RowLemmas
pub mod ShownLemmas
