pub mod Canvas
pub mod Picture
pub mod Shaded
