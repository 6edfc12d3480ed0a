pub mod Finds
pub mod Growing
pub mod Ids
pub mod Positions
pub mod Runs
pub mod Stops
