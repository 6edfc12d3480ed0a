pub mod Answers
pub mod Format
pub mod Storing
pub mod View
pub mod inner
pub mod laws
