pub mod Tells
pub mod Voting
pub mod Moments
pub mod Late
