-- Laws: what follows from the definitions, with the proofs.
pub mod ElementLaws
pub mod AmongLaws
pub mod PairLaws
