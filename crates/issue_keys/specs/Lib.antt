pub mod Faults
pub mod Indexes
pub mod Keys
pub mod Making
pub mod Under
pub mod inner
pub mod laws
