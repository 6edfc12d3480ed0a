pub mod Known
pub mod Puts
pub mod Places
pub mod Counted
pub mod Filed
pub mod Following
pub mod Tables
pub mod Signatures
