pub mod Paired
pub mod Parted
pub mod Rivals
