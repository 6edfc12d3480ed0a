pub mod Following
pub mod More
pub mod Until
pub mod Sets
