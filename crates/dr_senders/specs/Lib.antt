pub mod Senders
pub mod Pushing
