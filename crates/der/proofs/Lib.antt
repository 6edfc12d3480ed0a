pub mod Appends
pub mod Found
pub mod Lists
pub mod Moves
pub mod Turns
