pub mod Certified
pub mod Owed
pub mod inner
