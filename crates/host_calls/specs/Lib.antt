pub mod Counts
pub mod Faults
pub mod Plays
pub mod Rise
pub mod Schedule
