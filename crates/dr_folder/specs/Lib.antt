pub mod Foretold
pub mod Surveys
pub mod Advice
pub mod Checked
pub mod Told
pub mod Held
