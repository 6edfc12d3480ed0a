pub mod Ended
pub mod Leaves
pub mod Spans
pub mod Told
pub mod UriTexts
