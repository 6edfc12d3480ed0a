-- Scaffolding: words that only private contracts, invariants and proofs need.
pub mod Finished
pub mod Keys
pub mod Naming
pub mod Outcomes
pub mod Putting
pub mod Ready
pub mod Signing
