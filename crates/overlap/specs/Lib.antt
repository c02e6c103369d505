pub mod Clash
pub mod Diffn
pub mod Ends
pub mod Pairs
pub mod Clashing
