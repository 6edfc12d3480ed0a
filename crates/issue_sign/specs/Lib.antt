pub mod Calls
pub mod Made
pub mod Objects
pub mod SignInput
pub mod Signed
pub mod Spelled
pub mod inner
