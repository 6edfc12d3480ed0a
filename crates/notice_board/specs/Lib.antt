pub mod Lists
pub mod Rows
pub mod Seats
pub mod Rule
pub mod inner
