pub mod Agreed
pub mod SummaryAnswers
mod TraceStatuses
mod Traces
pub mod ExplainLines
mod Calm
mod Counting
mod Crashes
mod Forms
mod Variants
mod Simulating
mod Whole
mod Keeping
mod Lessening
mod SweepAnswers
pub mod LogLines
mod LogAnswers
mod FolderAnswers
pub mod Followings
pub mod JudgeAnswers
