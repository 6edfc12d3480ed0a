pub mod Answers
pub mod Extensions
pub mod Formats
pub mod Prefixes
pub mod Views
pub mod laws
