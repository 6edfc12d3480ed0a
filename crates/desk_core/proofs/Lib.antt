pub mod Recorded
mod Refusals
pub mod Loading
pub mod Listed
pub mod Committed
pub mod Opened
pub mod Words
