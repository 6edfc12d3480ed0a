-- Scaffolding: words that only private contracts, invariants and proofs need.
pub mod Pending
pub mod Progress
pub mod Tries
