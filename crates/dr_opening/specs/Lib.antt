pub mod CuttingBack
pub mod Lists
pub mod Contents
pub mod Logs
pub mod Tries
pub mod Unopened
pub mod Accepted
pub mod CatchingUp
