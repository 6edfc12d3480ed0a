-- Laws: what follows from the definitions, with the proofs.
pub mod Same
pub mod Ordered
pub mod RangeLaws
pub mod TextLaws
