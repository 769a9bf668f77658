pub mod AllThere
pub mod Alone
pub mod Beginning
pub mod Chosen
pub mod Ended
pub mod Extra
pub mod Grown
pub mod Handing
pub mod Keeping
pub mod Lasting
pub mod Missing
mod OneValue
mod Paths
pub mod Sounding
pub mod Tried
pub mod Voting
