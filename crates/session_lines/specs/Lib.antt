pub mod Keeping
pub mod Texts
pub mod Replies
pub mod LongLines
pub mod Sessions
pub mod Runs
pub mod Own
pub mod inner
