pub mod Changes
pub mod Objects
pub mod Queries
pub mod inner
pub mod laws
