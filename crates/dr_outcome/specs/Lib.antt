pub mod Last
pub mod Playing
pub mod Outcome
