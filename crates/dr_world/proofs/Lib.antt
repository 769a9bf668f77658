pub mod Letters
pub mod Guarding
pub mod Effects
pub mod Beginning
pub mod Taking
pub mod Holding
