pub mod Told
pub mod Gathered
pub mod Standing
pub mod Opened
pub mod Committed
pub mod Reopening
