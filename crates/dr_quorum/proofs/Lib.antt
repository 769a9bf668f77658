mod Choices
mod Exact
mod Holding
mod Knowing
mod Masks
mod Paths
pub mod Stands
mod Votes
mod Walks
