pub mod Boxes
pub mod Grouping
pub mod Sourcing
