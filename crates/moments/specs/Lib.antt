pub mod Civil
pub mod Days
pub mod Text
pub mod Reading
pub mod laws
