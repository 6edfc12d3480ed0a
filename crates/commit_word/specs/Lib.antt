pub mod Entries
pub mod Seats
pub mod Rule
pub mod inner
