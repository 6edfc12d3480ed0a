-- Scaffolding: words that only private contracts, invariants and proofs need.
pub mod Room
pub mod RunLaws
pub mod Instances
pub mod Handlers
pub mod Opened
pub mod Gathered
pub mod Pressing
pub mod Started
pub mod Refusing
pub mod Asking
pub mod PressOpened
pub mod Summing
pub mod Shared
