pub mod Names
pub mod Rows
pub mod Table
pub mod Line
pub mod Reply
pub mod Refused
pub mod Texts
pub mod inner
