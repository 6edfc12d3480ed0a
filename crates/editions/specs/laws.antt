-- Laws: what follows from the definitions, with the proofs.
pub mod StandingLaws
pub mod UriLaws
pub mod RowLaws
pub mod GrantedLaws
