-- Scaffolding: words that only private contracts, invariants and proofs need.
pub mod Overlays
pub mod Pairs
