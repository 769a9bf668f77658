pub mod Agreeing
mod Histories
mod Items
pub mod Leavings
pub mod Messages
pub mod Remaining
pub mod ChosenViews
pub mod Finishing
pub mod Holding
pub mod Letters
pub mod Joining
pub mod Reached
pub mod Choosing
pub mod HeldViews
pub mod Covering
pub mod Ending
pub mod Rooms
pub mod Once
pub mod Worlds
pub mod Telling
pub mod FirstView
pub mod Ended
pub mod Firsts
pub mod Whole
