-- Laws: what follows from the definitions, with the proofs.
pub mod AnswerLaws
pub mod ByteLaws
pub mod FamilyLaws
pub mod FormatLaws
pub mod LeadingLaws
pub mod PrefixLaws
pub mod SetLaws
pub mod Written
pub mod WrittenLaws
