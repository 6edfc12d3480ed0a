pub mod Lists
pub mod Kept
pub mod Lasting
pub mod Spans
pub mod Vouching
pub mod Accepting
pub mod Visiting
pub mod Asking
