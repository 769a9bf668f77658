pub mod Commands
pub mod Stock
pub mod Tables
