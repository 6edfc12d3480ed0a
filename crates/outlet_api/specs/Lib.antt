pub mod Calls
pub mod Exports
pub mod Faults
pub mod Folders
pub mod Memory
pub mod Over
pub mod Paths
pub mod laws
