-- Scaffolding: words that only private contracts, invariants and proofs need.
pub mod Entries
pub mod Holdings
pub mod Positions
