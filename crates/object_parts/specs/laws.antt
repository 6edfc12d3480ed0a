-- Laws: what follows from the definitions, with the proofs.
pub mod TimeLaws
pub mod FrameLaws
pub mod NameLaws
