pub mod MakingLemmas
pub mod ObjectLemmas
pub mod PlanLemmas
pub mod StateLemmas
pub mod StepLemmas
pub mod WalkLemmas
