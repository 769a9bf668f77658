pub mod Members
pub mod Places
pub mod History
pub mod Order
pub mod Soundness
pub mod Agreement
pub mod Restarting
