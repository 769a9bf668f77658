mod EachLemmas
pub mod JsonLemmas
mod MessageLemmas
mod RangeLemmas
mod RuleLemmas
mod StopLemmas
pub mod Ranges
