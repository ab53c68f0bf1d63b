pub mod Differing
pub mod SheetText
