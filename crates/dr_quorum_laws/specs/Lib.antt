pub mod Holding
pub mod Lasting
pub mod Returning
pub mod Voting
