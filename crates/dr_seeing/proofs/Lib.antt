pub mod Outputs
pub mod Traces
