pub mod Editions
pub mod Kept
pub mod Owning
