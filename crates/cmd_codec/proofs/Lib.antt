pub mod Digits
pub mod Fronts
pub mod Ways
pub mod Lists
pub mod OriginField
pub mod Names
pub mod RangeField
pub mod PartLemmas
pub mod Records
pub mod Good
pub mod Apart
pub mod Sizes
mod Named
