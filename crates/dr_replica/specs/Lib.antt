pub mod Items
pub mod Spots
pub mod History
pub mod Lefts
pub mod Inside
pub mod Rests
pub mod Wedges
