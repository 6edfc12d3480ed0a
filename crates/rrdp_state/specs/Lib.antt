pub mod Coherent
pub mod Editions
pub mod Exported
pub mod Kept
pub mod Named
pub mod Paths
pub mod Resuming
pub mod State
