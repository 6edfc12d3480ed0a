-- Laws: what follows from the definitions, with the proofs.
pub mod AlikeLaws
pub mod CarryLaws
pub mod ChangeLaws
pub mod EditionLaws
pub mod EntryLaws
pub mod KeyLaws
pub mod PartLaws
pub mod RecordLaws
pub mod RecordableLaws
pub mod RiseLaws
pub mod RowLaws
pub mod StoreLaws
