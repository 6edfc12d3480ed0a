pub mod Made
pub mod Trace
pub mod ObjectPlan
pub mod CanMake
pub mod Answers
pub mod inner
pub mod laws
