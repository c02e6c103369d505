pub mod Bytes
pub mod Items
pub mod Lines
pub mod Numerals
pub mod Split
