pub mod Answers
pub mod Suspicion
pub mod Waits
pub mod Wishes
