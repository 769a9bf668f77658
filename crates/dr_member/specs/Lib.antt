pub mod Search
pub mod Judge
pub mod Fate
pub mod Deeds
pub mod Bases
pub mod Ready
pub mod Inside
pub mod Alone
