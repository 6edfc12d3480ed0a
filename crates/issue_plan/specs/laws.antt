-- Laws: what follows from the definitions, with the proofs.
pub mod FitLaws
pub mod SameLaws
