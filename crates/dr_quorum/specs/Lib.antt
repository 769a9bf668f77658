pub mod Handing
pub mod Reading
pub mod Ballots
pub mod Knowing
pub mod Comparing
pub mod Telling
