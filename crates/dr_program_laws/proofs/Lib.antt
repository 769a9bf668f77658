pub mod Sight
pub mod Keeping
pub mod Nets
pub mod Carried
pub mod Standing
mod Deeds
pub mod Programs
mod Outside
pub mod Ending
pub mod Trusting
pub mod Patience
pub mod Failing
pub mod Endings
pub mod Bounds
pub mod Letters
pub mod Later
pub mod Waiting
pub mod Beginning
