-- Scaffolding: words that only private contracts, invariants and proofs need.
pub mod Ready
pub mod Exporting
pub mod Loads
pub mod Resumed
pub mod Rows
