pub mod Values
pub mod Extensions
pub mod Holdings
pub mod Formats
pub mod inner
pub mod laws
