pub mod Prefixes
pub mod Places
pub mod Rows
pub mod Kept
pub mod Moves
pub mod SetAside
