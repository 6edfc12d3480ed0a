-- Scaffolding: words that only private contracts, invariants and proofs need.
pub mod ByRows
pub mod Following
pub mod KeyTree
pub mod PlanAndTable
pub mod PlannedWork
pub mod RowPlaces
pub mod Vouched
