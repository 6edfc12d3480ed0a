pub mod Bodies
pub mod Certificates
pub mod UriEndings
pub mod Publishers
