mod Turns
mod Groups
pub mod AnchorFits
pub mod Distinct
