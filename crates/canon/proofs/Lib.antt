pub mod Heading
pub mod Lines
pub mod Numbers
pub mod Orders
pub mod Pieces
pub mod Spaced
pub mod Walls
pub mod Whole
