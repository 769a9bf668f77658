pub mod Ended
pub mod Causes
pub mod Failing
pub mod Trusting
pub mod Carried
