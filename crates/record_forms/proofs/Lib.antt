pub mod Counts
pub mod Further
