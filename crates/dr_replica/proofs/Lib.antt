pub mod Spots
pub mod Places
pub mod Rests
pub mod Histories
pub mod Received
pub mod Insides
pub mod Delivering
mod Exchanges
pub mod Openings
pub mod Choosing
pub mod Lefts
pub mod Leaving
mod Joining
