pub mod Layout
pub mod Shards
