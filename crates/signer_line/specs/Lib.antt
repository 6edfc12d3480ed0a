pub mod Answers
pub mod Lines
pub mod Meetings
pub mod Openings
pub mod Streams
