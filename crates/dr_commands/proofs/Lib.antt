pub mod Verbs
pub mod Course
pub mod Judged
mod LiveOutcome
mod LiveLasts
mod LastViews
mod DrillOutcome
mod StoreLasts
mod StoreOutcome
mod ShardsLasts
mod ShardsOutcome
mod CheckStatuses
mod CheckOutcome
pub mod RunsRight
pub mod PlayedRight
