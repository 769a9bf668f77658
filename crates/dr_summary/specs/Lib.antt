pub mod Histories
pub mod Table
pub mod Marks
pub mod Notes
pub mod Summary
pub mod Objects
