pub mod Meaning
pub mod Reading
pub mod Grammars
pub mod Moments
