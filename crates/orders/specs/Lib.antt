pub mod Boxes
pub mod Entries
pub mod Named
pub mod Ordered
pub mod Shutting
