pub mod Accepts
pub mod Changes
pub mod Standings
