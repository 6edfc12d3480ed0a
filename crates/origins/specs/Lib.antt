pub mod Prefix
pub mod Text
pub mod Origin
pub mod Order
pub mod inner
pub mod laws
