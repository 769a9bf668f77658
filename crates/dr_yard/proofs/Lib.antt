mod Filled
pub mod YardStates
