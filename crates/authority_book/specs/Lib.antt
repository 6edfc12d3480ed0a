pub mod Origins
pub mod Listed
pub mod Settings
pub mod Refusals
pub mod Verdict
pub mod Fold
pub mod inner
