pub mod Boxes
pub mod Cells
pub mod Seeing
