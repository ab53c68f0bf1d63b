pub mod BehindLemmas
pub mod DistanceLemmas
pub mod FilmLemmas
pub mod LaneLemmas
pub mod ReadLemmas
pub mod StretchLemmas
