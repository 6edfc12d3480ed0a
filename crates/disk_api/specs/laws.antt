-- Laws: what follows from the definitions, with the proofs.
pub mod FileLaws
pub mod MemoryLaws
pub mod RunLaws
