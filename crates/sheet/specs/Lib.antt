pub mod Fits
pub mod Held
pub mod Lay
pub mod Meaning
pub mod Parts
pub mod Plan
pub mod Walked
