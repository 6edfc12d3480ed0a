-- Scaffolding: words that only private contracts, invariants and proofs need.
pub mod Anew
pub mod Beside
pub mod Changed
pub mod Groups
pub mod Live
pub mod OwedPlaces
pub mod Positions
pub mod Works
