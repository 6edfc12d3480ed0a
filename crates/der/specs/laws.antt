-- Laws: what follows from the definitions, with the proofs.
pub mod ChoiceLaws
pub mod ContentLaws
pub mod ElementLaws
pub mod FormLaws
pub mod FrameLaws
pub mod KindLaws
pub mod LeafLaws
pub mod LengthLaws
pub mod ListLaws
pub mod NumberLaws
pub mod ObjectLaws
pub mod PlaceLaws
pub mod SequenceLaws
pub mod ValueLaws
