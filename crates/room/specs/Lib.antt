pub mod Below
pub mod Fit
pub mod Limits
pub mod Listed
pub mod Seen
pub mod Spans
pub mod Told
