-- Laws: what follows from the definitions, with the proofs.
pub mod NumberLaws
pub mod AsNumberLaws
pub mod Ipv4Laws
pub mod ByteLaws
pub mod Ipv6Laws
