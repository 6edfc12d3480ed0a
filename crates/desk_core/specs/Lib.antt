pub mod View
pub mod Commands
pub mod Answers
pub mod Images
pub mod Counted
pub mod inner
