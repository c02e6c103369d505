pub mod Canonical
pub mod Formatted
pub mod Kept
