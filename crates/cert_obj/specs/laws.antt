-- Laws: what follows from the definitions, with the proofs.
pub mod ExtensionLaws
pub mod HoldingLaws
pub mod IdentifierLaws
pub mod CertLaws
