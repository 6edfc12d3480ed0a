-- Scaffolding: words that only private contracts, invariants and proofs need.
pub mod Index
pub mod Limits
pub mod Kept
