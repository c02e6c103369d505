pub mod Cells
pub mod ContentsWithin
pub mod Extents
pub mod Front
pub mod InRange
pub mod Modes
