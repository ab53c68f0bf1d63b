mod BarLemmas
mod ColumnLemmas
mod DrawnLemmas
mod EscapeLemmas
mod HarmlessLemmas
pub mod TitleLemmas
mod ShownLemmas
mod ToldLemmas
pub mod WrittenLemmas
