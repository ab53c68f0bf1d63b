pub mod Marks
pub mod Words
pub mod Strokes
pub mod Painted
pub mod Wanted
