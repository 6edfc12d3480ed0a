-- Laws: what follows from the definitions, with the proofs.
pub mod FirstPositions
pub mod KeyLaws
