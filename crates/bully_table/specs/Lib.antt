pub mod Balance
pub mod Planning
pub mod EqualShares
pub mod Numeral
pub mod TableText
pub mod Room
pub mod Pieces
pub mod Takers
