pub mod Calls
pub mod Jobs
pub mod Ring
pub mod inner
pub mod laws
