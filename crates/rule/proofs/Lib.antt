pub mod Pairs
pub mod Boxes
pub mod Gatherings
pub mod Ready
