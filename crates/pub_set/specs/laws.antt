-- Laws: what follows from the definitions, with the proofs.
pub mod UriLaws
pub mod LookupLaws
pub mod CarriedLaws
