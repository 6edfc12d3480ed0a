-- Laws: what follows from the definitions, with the proofs.
pub mod PrefixLaws
pub mod PlacedLaws
pub mod EntryLaws
pub mod BlockLaws
pub mod RoaLaws
pub mod AnswerLaws
pub mod ManifestLaws
pub mod OrderingLaws
