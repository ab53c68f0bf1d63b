pub mod Annotated
pub mod Annotation
pub mod InFull
pub mod Says
pub mod Shown
pub mod Told
