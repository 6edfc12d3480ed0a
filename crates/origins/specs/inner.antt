-- Scaffolding: words that only private contracts, invariants and proofs need.
pub mod Told
pub mod Fronts
pub mod Quick
