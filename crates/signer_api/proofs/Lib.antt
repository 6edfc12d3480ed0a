pub mod BlockLemmas
pub mod MemoryLemmas
