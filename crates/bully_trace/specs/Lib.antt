pub mod Details
pub mod StepTold
pub mod Verdict
pub mod VerdictText
pub mod Judging
pub mod Recorded
pub mod OneRow
pub mod OneVerdict
