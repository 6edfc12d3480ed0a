-- Scaffolding: words that only private contracts, invariants and proofs need.
pub mod AtPlaces
pub mod Gathering
