pub mod Answering
pub mod Mapping
pub mod Seating
pub mod Sessions
pub mod Rising
pub mod Owning
pub mod Attending
