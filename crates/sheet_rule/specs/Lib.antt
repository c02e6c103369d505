pub mod Held
pub mod Together
