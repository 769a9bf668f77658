mod Backs
pub mod Chain
mod Completing
mod Crashes
mod InStep
mod Lasting
pub mod Fresh
pub mod Good
pub mod Keeping
mod Lacking
mod Loans
mod Opening
mod Outliving
mod Played
pub mod Prompt
mod Reading
mod Refusals
pub mod Runs
mod Staying
mod Stopping
mod Tried
mod Votes
mod Watching
pub mod Parts
