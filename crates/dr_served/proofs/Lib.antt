pub mod Serving
pub mod Leaving
pub mod Appends
pub mod Rooms
pub mod Dues
pub mod Served
pub mod Grouped
