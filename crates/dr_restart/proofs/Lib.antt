pub mod Groups
pub mod Listed
pub mod Setups
mod Unique
pub mod Choosing
pub mod ByMessages
pub mod Trying
pub mod Handing
pub mod Longest
pub mod LeftVotes
pub mod Refusals
pub mod Sounding
