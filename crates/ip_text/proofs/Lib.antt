pub mod Answers
pub mod Decimals
pub mod AsNumbers
pub mod Dotted
pub mod Dots
