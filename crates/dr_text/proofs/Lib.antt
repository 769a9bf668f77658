pub mod Hex
mod Lines
pub mod Texts
pub mod Sinks
pub mod Hexes
pub mod Reports
