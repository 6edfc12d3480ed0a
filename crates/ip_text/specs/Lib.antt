pub mod Reader
pub mod Number
pub mod Ipv4
pub mod Ipv6
pub mod laws
