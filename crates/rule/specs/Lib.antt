pub mod Gathered
pub mod Kept
pub mod Means
pub mod Pair
pub mod Questions
pub mod Refused
pub mod Subjects
