pub mod Hashed
pub mod Memory
pub mod PublicKey
pub mod Rehearsal
pub mod State
