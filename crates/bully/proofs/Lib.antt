pub mod KnownBytesLemmas
pub mod AnnotateLemmas
pub mod AnswerLemmas
pub mod ExplainLemmas
mod MemberLemmas
mod ConfigLemmas
mod DrawLemmas
mod AskedLemmas
mod FollowLemmas
mod PipeLemmas
