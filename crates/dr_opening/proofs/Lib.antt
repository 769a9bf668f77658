pub mod Cutting
pub mod Steps
pub mod Lists
pub mod Ways
pub mod Trying
pub mod Crashing
pub mod Opened
pub mod Losing
pub mod Whole
pub mod Choosing
mod Placing
mod Voting
mod Rising
pub mod Accepting
pub mod Catching
pub mod Contents
pub mod Accepted
pub mod Logs
