pub mod Form
pub mod Forms
pub mod Outcome
pub mod laws
