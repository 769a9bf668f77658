pub mod Pieces
pub mod Pasts
pub mod Beside
pub mod Begin
pub mod OwnWords
pub mod Stamps
pub mod Shown
pub mod Copies
mod Acts
mod CountMore
pub mod ItemMore
pub mod Receipts
pub mod Puts
pub mod Suspicions
pub mod Votes
pub mod Finishes
pub mod Faithfulness
pub mod Late
mod Outside
pub mod ChosenViews
pub mod Completion
pub mod Ending
pub mod Rings
