pub mod Vouching
pub mod Audit
pub mod inner
