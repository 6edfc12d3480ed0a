pub mod Base
pub mod Uris
pub mod Refusal
