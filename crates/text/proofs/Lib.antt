pub mod Numbers
pub mod Parts
pub mod Range
pub mod Writes
