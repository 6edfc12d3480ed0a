pub mod TimeFormats
pub mod FrameFormats
pub mod NameFormats
pub mod laws
