pub mod Prefixes
pub mod Order
pub mod RoaFormats
pub mod RoaReading
pub mod Outcome
pub mod ManifestFormats
pub mod ManifestReading
pub mod laws
