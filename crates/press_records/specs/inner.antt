-- Scaffolding: words that only private contracts, invariants and proofs need.
pub mod Raw
pub mod Sites
pub mod Taking
