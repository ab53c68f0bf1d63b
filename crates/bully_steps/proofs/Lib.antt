pub mod PlanLemmas
pub mod ResumeLemmas
