pub mod Served
pub mod Appended
pub mod Left
