pub mod Faults
pub mod Source
pub mod Sink
pub mod Plan
pub mod MemorySource
pub mod MemorySink
pub mod Adapters
