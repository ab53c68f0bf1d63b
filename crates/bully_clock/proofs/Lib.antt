pub mod ReleaseLemmas
pub mod FreedLemmas
pub mod StoreLemmas
pub mod TimeLemmas
pub mod TimedLemmas
pub mod SomeTimed
