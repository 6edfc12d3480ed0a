-- Scaffolding: words that only private contracts, invariants and proofs need.
pub mod MemberName
pub mod Slots
pub mod Passes
pub mod Tokens
pub mod Members
pub mod Plain
