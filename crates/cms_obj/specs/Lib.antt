pub mod Values
pub mod Formats
pub mod Laws
