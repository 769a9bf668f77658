pub mod Owning
pub mod Counting
pub mod Laying
pub mod Numbers
pub mod Agreeing
