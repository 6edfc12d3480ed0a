-- Laws: what follows from the definitions, with the proofs.
pub mod PrefixLaws
pub mod SetLaws
